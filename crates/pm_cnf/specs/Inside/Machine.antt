-- How the reader goes from token to token.
use Rattle.std.specs.Prelude.{ℕ, zero, suc, ◌&&◌, ◌||◌, nat_le, nat_lt, Bool, true, false, not, if◌then◌else◌, List, [], ◌∷◌, length, Option, Some, None, codes}
use Rattle.std.specs.List.{list_all, list_any}
use Rattle.std.specs.Char.{is_ascii_digit}
use Rattle.std.specs.Str.{bytes_eq}
use Rattle.pm_scan.specs.declared.token.Mark.TheVariants.{OpenParenthesis, CloseParenthesis, OpenBracket, CloseBracket, OpenBrace, CloseBrace, Comma, FullStop, Bar, Tilde, Equals}
use Rattle.pm_cnf.specs.declared.parser.Expected.{Expected}
use Rattle.pm_cnf.specs.declared.parser.Expected.TheVariants as expect
use Rattle.pm_scan.specs.declared.offence.CnfKind.{CnfKind}
use Rattle.pm_scan.specs.declared.offence.CnfKind.TheVariants as kinds
use Rattle.pm_cnf.specs.declared.limits.Limits.{Limits}
use Rattle.pm_scan.specs.Lexemes.{Token, lower, upper, number, quoted, distinct, dollar, unequal, mark}
use Rattle.pm_cnf.specs.Grammar.{Bracket, parentheses, brackets, braces, Begins, nothing, an_item, a_literal, an_atom, an_argument, a_next_literal}

-- What was read: so many whole items; of the item that is being read the parentheses that are open
-- around its formula, and how many literals were begun; for each open list of arguments, the
-- innermost first, how many were begun; and the brackets that are open in annotations, the
-- innermost first.
pub record ParserState : Type 0 where
  pub expected : Expected
  pub items : ℕ
  pub around : ℕ
  pub literals : ℕ
  pub arguments : List ℕ
  pub open_brackets : List Bracket

abbrev pub start : ParserState
start = record {
  expected = expect.Item;
  items = 0;
  around = 0;
  literals = 0;
  arguments = [];
  open_brackets = [];
}

abbrev pub expecting : Expected → ParserState → ParserState
expecting e s = record s { expected = e }

abbrev pub within_parentheses : ℕ → Expected → ParserState → ParserState
within_parentheses n e s = record s { expected = e; around = n }

abbrev pub next_literal : ParserState → ParserState
next_literal s = record s { literals = suc s.literals }

abbrev pub within_arguments : List ℕ → Expected → ParserState → ParserState
within_arguments counts e s = record s { expected = e; arguments = counts }

abbrev pub within_brackets : List Bracket → Expected → ParserState → ParserState
within_brackets others e s = record s { expected = e; open_brackets = others }

abbrev pub after_item : ParserState → ParserState
after_item s = record start { items = suc s.items }

-- one more argument of the innermost list was begun
abbrev pub one_more : List ℕ → List ℕ
one_more [] = []
one_more (n ∷ counts) = suc n ∷ counts

abbrev pub item_step : ParserState → Token → Option ParserState
item_step s (lower text) =
    if bytes_eq text (codes "cnf") then Some (expecting expect.Opening s) else None
item_step s t = None

abbrev pub name_step : ParserState → Token → Option ParserState
name_step s (lower text) = Some (expecting expect.NameEnd s)
name_step s (quoted text) = Some (expecting expect.NameEnd s)
name_step s (number text) =
    if list_all is_ascii_digit text then Some (expecting expect.NameEnd s) else None
name_step s t = None

abbrev pub role_step : ParserState → Token → Option ParserState
role_step s (lower text) = Some (expecting expect.RoleEnd s)
role_step s t = None

-- the mark that leads on to this, and no other token
abbrev pub opening_step : ParserState → ParserState → Token → Option ParserState
opening_step next s (mark OpenParenthesis) = Some next
opening_step next s t = None

abbrev pub comma_step : ParserState → Token → Option ParserState
comma_step next (mark Comma) = Some next
comma_step next t = None

abbrev pub is_constant : List ℕ → Bool
is_constant text = bytes_eq text (codes "$true") || bytes_eq text (codes "$false")

abbrev pub atom_step : ParserState → Token → Option ParserState
atom_step s (lower text) = Some (expecting expect.PredicateEnd s)
atom_step s (quoted text) = Some (expecting expect.PredicateEnd s)
atom_step s (upper text) = Some (expecting expect.VariableEnd s)
atom_step s (dollar text) = if is_constant text then Some (expecting expect.LiteralEnd s) else None
atom_step s t = None

abbrev pub literal_step : ParserState → Token → Option ParserState
literal_step s (mark Tilde) = Some (expecting expect.Atom (next_literal s))
literal_step s t = atom_step (next_literal s) t

abbrev pub formula_step : ParserState → Token → Option ParserState
formula_step s (mark OpenParenthesis) = Some (within_parentheses (suc s.around) expect.Formula s)
formula_step s t = literal_step s t

abbrev pub close_formula : ℕ → ParserState → ParserState
close_formula zero s = expecting expect.FullStop s
close_formula (suc n) s = within_parentheses n expect.FormulaEnd s

abbrev pub annotate : ℕ → ParserState → Option ParserState
annotate zero s = Some (expecting expect.Annotations s)
annotate (suc n) s = None

abbrev pub formula_end_step : ParserState → Token → Option ParserState
formula_end_step s (mark CloseParenthesis) = Some (close_formula s.around s)
formula_end_step s (mark Comma) = annotate s.around s
formula_end_step s t = None

abbrev pub literal_end_step : ParserState → Token → Option ParserState
literal_end_step s (mark Bar) = Some (expecting expect.Literal s)
literal_end_step s t = formula_end_step s t

abbrev pub predicate_end_step : ParserState → Token → Option ParserState
predicate_end_step s (mark OpenParenthesis) =
    Some (within_arguments (0 ∷ s.arguments) expect.Term s)
predicate_end_step s t = literal_end_step s t

abbrev pub term_step : ParserState → Token → Option ParserState
term_step s (lower text) = Some (within_arguments (one_more s.arguments) expect.FunctionEnd s)
term_step s (quoted text) = Some (within_arguments (one_more s.arguments) expect.FunctionEnd s)
term_step s (upper text) = Some (within_arguments (one_more s.arguments) expect.TermEnd s)
term_step s t = None

-- the innermost list of arguments ends
abbrev pub close_arguments : List ℕ → ParserState → Option ParserState
close_arguments [] s = None
close_arguments (n ∷ []) s = Some (within_arguments [] expect.LiteralEnd s)
close_arguments (n ∷ m ∷ counts) s = Some (within_arguments (m ∷ counts) expect.TermEnd s)

abbrev pub term_end_step : ParserState → Token → Option ParserState
term_end_step s (mark Comma) = Some (expecting expect.Term s)
term_end_step s (mark CloseParenthesis) = close_arguments s.arguments s
term_end_step s t = None

abbrev pub function_end_step : ParserState → Token → Option ParserState
function_end_step s (mark OpenParenthesis) = Some (within_arguments (0 ∷ s.arguments) expect.Term s)
function_end_step s t = term_end_step s t

abbrev pub same_bracket : Bracket → Bracket → Bool
same_bracket parentheses parentheses = true
same_bracket brackets brackets = true
same_bracket braces braces = true
same_bracket a b = false

-- the innermost bracket is closed by its own mark
abbrev pub close_bracket : Bracket → List Bracket → ParserState → Option ParserState
close_bracket b [] s = None
close_bracket b (c ∷ others) s =
    if same_bracket b c then Some (within_brackets others expect.AnnotationsEnd s) else None

abbrev pub annotation_step : ParserState → Token → Option ParserState
annotation_step s (mark OpenParenthesis) =
    Some (within_brackets (parentheses ∷ s.open_brackets) expect.AnnotationsEnd s)
annotation_step s (mark OpenBracket) =
    Some (within_brackets (brackets ∷ s.open_brackets) expect.AnnotationsEnd s)
annotation_step s (mark OpenBrace) =
    Some (within_brackets (braces ∷ s.open_brackets) expect.AnnotationsEnd s)
annotation_step s (mark CloseParenthesis) = close_bracket parentheses s.open_brackets s
annotation_step s (mark CloseBracket) = close_bracket brackets s.open_brackets s
annotation_step s (mark CloseBrace) = close_bracket braces s.open_brackets s
annotation_step s (mark FullStop) = None
annotation_step s t = Some (expecting expect.AnnotationsEnd s)

abbrev pub close_item : List Bracket → ParserState → Option ParserState
close_item [] s = Some (expecting expect.FullStop s)
close_item (b ∷ others) s = close_bracket parentheses (b ∷ others) s

abbrev pub annotations_end_step : ParserState → Token → Option ParserState
annotations_end_step s (mark CloseParenthesis) = close_item s.open_brackets s
annotations_end_step s t = annotation_step s t

abbrev pub stop_step : ParserState → Token → Option ParserState
stop_step s (mark FullStop) = Some (after_item s)
stop_step s t = None

-- the state after one more token, where the token is allowed
abbrev pub step_at : Expected → ParserState → Token → Option ParserState
step_at expect.Item s t = item_step s t
step_at expect.Opening s t = opening_step (expecting expect.Name s) s t
step_at expect.Name s t = name_step s t
step_at expect.NameEnd s t = comma_step (expecting expect.Role s) t
step_at expect.Role s t = role_step s t
step_at expect.RoleEnd s t = comma_step (expecting expect.Formula s) t
step_at expect.Formula s t = formula_step s t
step_at expect.Literal s t = literal_step s t
step_at expect.Atom s t = atom_step s t
step_at expect.PredicateEnd s t = predicate_end_step s t
step_at expect.LiteralEnd s t = literal_end_step s t
step_at expect.VariableEnd s t = None
step_at expect.Term s t = term_step s t
step_at expect.FunctionEnd s t = function_end_step s t
step_at expect.TermEnd s t = term_end_step s t
step_at expect.FormulaEnd s t = formula_end_step s t
step_at expect.Annotations s t = annotation_step s t
step_at expect.AnnotationsEnd s t = annotations_end_step s t
step_at expect.FullStop s t = stop_step s t

abbrev pub step : ParserState → Token → Option ParserState
step s t = step_at s.expected s t

abbrev pub step_from : Option ParserState → Token → Option ParserState
step_from None t = None
step_from (Some s) t = step s t

-- the state after all of the tokens, where each is allowed
abbrev pub run_from : Option ParserState → List Token → Option ParserState
run_from s [] = s
run_from s (t ∷ ts) = run_from (step_from s t) ts

abbrev pub run : List Token → Option ParserState
run ts = run_from (Some start) ts

abbrev pub innermost : List ℕ → ℕ
innermost [] = 0
innermost (n ∷ counts) = n

abbrev pub formula_begun : Token → ParserState → Begins
formula_begun (mark OpenParenthesis) s = nothing
formula_begun t s = a_literal s.literals

abbrev pub literal_end_begun : Token → Begins
literal_end_begun (mark Bar) = a_next_literal
literal_end_begun t = nothing

-- what the token begins
abbrev pub begun_at : Expected → ParserState → Token → Begins
begun_at expect.Item s t = an_item s.items
begun_at expect.Formula s t = formula_begun t s
begun_at expect.Literal s t = a_literal s.literals
begun_at expect.Atom s t = an_atom
begun_at expect.PredicateEnd s t = literal_end_begun t
begun_at expect.LiteralEnd s t = literal_end_begun t
begun_at expect.Term s t = an_argument (innermost s.arguments) (length s.arguments)
begun_at e s t = nothing

abbrev pub begun : ParserState → Token → Begins
begun s t = begun_at s.expected s t

abbrev pub item_refusal : Token → CnfKind
item_refusal (lower text) = if bytes_eq text (codes "include") then kinds.Include else kinds.NotCnf
item_refusal t = kinds.Unexpected

abbrev pub term_refusal : Token → CnfKind
term_refusal (number text) = kinds.Number
term_refusal distinct = kinds.DistinctObject
term_refusal t = kinds.Unexpected

abbrev pub atom_end_refusal : Token → CnfKind
atom_end_refusal unequal = kinds.Equality
atom_end_refusal (mark Equals) = kinds.Equality
atom_end_refusal t = kinds.Unexpected

-- the kind of a token that isn't allowed
abbrev pub refusal_at : Expected → Token → CnfKind
refusal_at expect.Item t = item_refusal t
refusal_at expect.Formula t = term_refusal t
refusal_at expect.Literal t = term_refusal t
refusal_at expect.Atom t = term_refusal t
refusal_at expect.Term t = term_refusal t
refusal_at expect.PredicateEnd t = atom_end_refusal t
refusal_at expect.LiteralEnd t = atom_end_refusal t
refusal_at expect.VariableEnd t = atom_end_refusal t
refusal_at e t = kinds.Unexpected

-- the token is an upper word that isn't among the variables, and they are as many as there may be
abbrev pub has_too_many_variables : Limits → List (List ℕ) → Token → Bool
has_too_many_variables limits known (upper text) =
    not (list_any (bytes_eq text) known) && nat_le limits.variables (length known)
has_too_many_variables limits known t = false

-- the limit that a token which begins this goes past
abbrev pub past_limit : Limits → Begins → Bool → Option CnfKind
past_limit limits (an_item n) many =
    if nat_le limits.clauses n then Some kinds.TooManyClauses else None
past_limit limits (a_literal n) many =
    if nat_le limits.literals n then Some kinds.TooManyLiterals
    else if many then Some kinds.TooManyVariables else None
past_limit limits (an_argument n nesting) many =
    if many then Some kinds.TooManyVariables else
    if nat_le limits.arity n then Some kinds.ArityTooLarge else
    if nat_lt limits.nesting nesting then Some kinds.TooDeep else None
past_limit limits begun many = if many then Some kinds.TooManyVariables else None

abbrev pub refusal_of : Option ParserState → Option CnfKind → CnfKind → Option CnfKind
refusal_of None past kind = Some kind
refusal_of (Some s) past kind = past

-- why the token is refused, where it is
abbrev pub refusal : Limits → List (List ℕ) → ParserState → Token → Option CnfKind
refusal limits known s t =
    refusal_of (step s t) (past_limit limits (begun s t) (has_too_many_variables limits known t))
    (refusal_at s.expected t)
