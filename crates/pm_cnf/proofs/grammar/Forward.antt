-- The step machine goes through what the grammar prints, and each token begins what is printed beside it.
use Rattle.std.proofs.Common.{◌≡◌, ℕ, suc, ◌+◌, Bool, true, false, IsTrue, List, [], ◌∷◌, ◌++◌, length, Option, Some, None, refl, sym, ap, subst, arith, append_assoc}
use Rattle.std.specs.List.{list_all}
use Rattle.std.specs.Char.{is_ascii_digit}
use Rattle.std.proofs.lemmas.Bool.{cond-true}
use Rattle.pm_scan.specs.declared.token.Mark.TheVariants.{OpenParenthesis, CloseParenthesis, OpenBracket, CloseBracket, OpenBrace, CloseBrace, Comma, FullStop, Bar, Tilde, Equals, Other}
use Rattle.pm_cnf.specs.declared.parser.Expected.{Expected}
use Rattle.pm_cnf.specs.declared.parser.Expected.TheVariants as expect
use Rattle.pm_scan.specs.Lexemes.{Token, lower, upper, number, quoted, distinct, dollar, unequal, mark}
use Rattle.pm_cnf.specs.Grammar.{bare, between_quotes, Term, variable, application, Arguments, no_arguments, more_arguments, Atom, predicate, truth, falsity, Literal, Formula, in_parentheses, disjunction, Bracket, parentheses, brackets, braces, Annotations, no_more, plain, group, Name, word, integer, Item, nothing, an_atom, Placed, only, term_places, arguments_places, others_places, atom_places, literal_places, others_joined, formula_places, opening, closing, annotations_places, name_token, ending_places, item_places, file_places, tokens_of, is_plain_token, AreAnnotations, MayEnd, IsName, IsItem, AreItems}
use Rattle.pm_cnf.specs.Inside.Machine.{ParserState, start, step, run}
use Rattle.pm_cnf.proofs.grammar.Follows.{Follows, follows_append, follows_run}

-- a state within a formula, with so many items before it, parentheses around it, literals and arguments
abbrev pub in_formula : Expected → ℕ → ℕ → ℕ → List ℕ → ParserState
in_formula e i a l counts = record { expected = e; items = i; around = a; literals = l; arguments = counts; open_brackets = [] }

-- a state outside of a formula
abbrev pub in_item : Expected → ℕ → ParserState
in_item e i = in_formula e i 0 0 []

-- a state within annotations
abbrev pub in_annotations : Expected → ℕ → ℕ → List Bracket → ParserState
in_annotations e i l bs = record { expected = e; items = i; around = 0; literals = l; arguments = []; open_brackets = bs }

-- the state after a list of arguments, with these lists around it
abbrev pub after_arguments : ℕ → ℕ → ℕ → List ℕ → ParserState
after_arguments i a l [] = in_formula expect.LiteralEnd i a l []
after_arguments i a l (n ∷ counts) = in_formula expect.TermEnd i a l (n ∷ counts)

-- after a function's name, what follows a term may follow
as_function_end : (ts : Arguments) (i a l k n m : ℕ) (counts : List ℕ) (r : ParserState) → Follows (Some (in_formula expect.TermEnd i a l (m ∷ counts))) (others_places k n ts) r
    → Follows (Some (in_formula expect.FunctionEnd i a l (m ∷ counts))) (others_places k n ts) r
as_function_end no_arguments i a l k n m [] r h = h
as_function_end no_arguments i a l k n m (c ∷ counts) r h = h
as_function_end (more_arguments t ts) i a l k n m counts r h = h

-- the first argument and the others, without the parenthesis before them
abbrev first_places : ℕ → Term → Arguments → List Placed
first_places nesting t ts = term_places nesting 0 t ++ others_places nesting 1 ts

arguments_pass : (t : Term) (ts : Arguments) (i a l : ℕ) (counts : List ℕ) (rest : List Placed) (r : ParserState)
    → Follows (Some (in_formula expect.Term i a l (0 ∷ counts))) (first_places (suc (length counts)) t ts) (after_arguments i a l counts) → Follows (Some (after_arguments i a l counts)) rest r
    → Follows (Some (in_formula expect.Term i a l (0 ∷ counts))) (first_places (suc (length counts)) t ts ++ rest) r
arguments_pass t ts i a l counts rest r = follows_append (Some (in_formula expect.Term i a l (0 ∷ counts))) (first_places (suc (length counts)) t ts) rest (after_arguments i a l counts) r

mutual
  pub term_then : (t : Term) (i a l n : ℕ) (counts : List ℕ) (rest : List Placed) (r : ParserState)
      → Follows (Some (in_formula expect.TermEnd i a l (suc n ∷ counts))) rest r
      → Follows (Some (in_formula expect.FunctionEnd i a l (suc n ∷ counts))) rest r
      → Follows (Some (in_formula expect.Term i a l (n ∷ counts))) (term_places (suc (length counts)) n t ++ rest) r
  term_then (variable text) i a l n counts rest r term function = (refl, term)
  term_then (application (bare text) no_arguments) i a l n counts rest r term function = (refl, function)
  term_then (application (between_quotes text) no_arguments) i a l n counts rest r term function = (refl, function)
  term_then (application (bare text) (more_arguments t ts)) i a l n counts rest r term function =
      let others = others_follow ts i a l 1 (suc n ∷ counts) in
      let inner = term_then t i a l 0 (suc n ∷ counts) (others_places (suc (length (suc n ∷ counts))) 1 ts) (after_arguments i a l (suc n ∷ counts)) others (as_function_end ts i a l (suc (length (suc n ∷ counts))) 1 1 (suc n ∷ counts) (after_arguments i a l (suc n ∷ counts)) others) in
      (refl, (refl, arguments_pass t ts i a l (suc n ∷ counts) rest r inner term))
  term_then (application (between_quotes text) (more_arguments t ts)) i a l n counts rest r term function =
      let others = others_follow ts i a l 1 (suc n ∷ counts) in
      let inner = term_then t i a l 0 (suc n ∷ counts) (others_places (suc (length (suc n ∷ counts))) 1 ts) (after_arguments i a l (suc n ∷ counts)) others (as_function_end ts i a l (suc (length (suc n ∷ counts))) 1 1 (suc n ∷ counts) (after_arguments i a l (suc n ∷ counts)) others) in
      (refl, (refl, arguments_pass t ts i a l (suc n ∷ counts) rest r inner term))

  pub others_follow : (ts : Arguments) (i a l n : ℕ) (counts : List ℕ)
      → Follows (Some (in_formula expect.TermEnd i a l (n ∷ counts))) (others_places (suc (length counts)) n ts) (after_arguments i a l counts)
  others_follow no_arguments i a l n [] = (refl, refl)
  others_follow no_arguments i a l n (m ∷ counts) = (refl, refl)
  others_follow (more_arguments t ts) i a l n counts =
      let others = others_follow ts i a l (suc n) counts in
      (refl, term_then t i a l n counts (others_places (suc (length counts)) (suc n) ts) (after_arguments i a l counts) others (as_function_end ts i a l (suc (length counts)) (suc n) (suc n) counts (after_arguments i a l counts) others))

-- these places follow a literal
pub record FollowsLiteral (i a l : ℕ) (rest : List Placed) (r : ParserState) : Type 0 where
  pub predicate_end : Follows (Some (in_formula expect.PredicateEnd i a l [])) rest r
  pub literal_end : Follows (Some (in_formula expect.LiteralEnd i a l [])) rest r

pub arguments_then : (args : Arguments) (i a l : ℕ) (rest : List Placed) (r : ParserState) → FollowsLiteral i a l rest r
    → Follows (Some (in_formula expect.PredicateEnd i a l [])) (arguments_places 1 args ++ rest) r
arguments_then no_arguments i a l rest r h = h.predicate_end
arguments_then (more_arguments t ts) i a l rest r h =
    let others = others_follow ts i a l 1 [] in
    let inner = term_then t i a l 0 [] (others_places 1 1 ts) (after_arguments i a l []) others (as_function_end ts i a l 1 1 1 [] (after_arguments i a l []) others) in
    (refl, arguments_pass t ts i a l [] rest r inner h.literal_end)

pub atom_then : (atom : Atom) (i a l : ℕ) (rest : List Placed) (r : ParserState) → FollowsLiteral i a l rest r
    → Follows (Some (in_formula expect.Atom i a l [])) (atom_places an_atom atom ++ rest) r
atom_then (predicate (bare text) args) i a l rest r h = (refl, arguments_then args i a l rest r h)
atom_then (predicate (between_quotes text) args) i a l rest r h = (refl, arguments_then args i a l rest r h)
atom_then truth i a l rest r h = (refl, h.literal_end)
atom_then falsity i a l rest r h = (refl, h.literal_end)

literal_by : (positive : Bool) (atom : Atom) (i a l : ℕ) (rest : List Placed) (r : ParserState) → FollowsLiteral i a (suc l) rest r
    → Follows (Some (in_formula expect.Literal i a l [])) (literal_places l (record { positive = positive; atom = atom }) ++ rest) r
literal_by false atom i a l rest r h = (refl, atom_then atom i a (suc l) rest r h)
literal_by true (predicate (bare text) args) i a l rest r h = (refl, arguments_then args i a (suc l) rest r h)
literal_by true (predicate (between_quotes text) args) i a l rest r h = (refl, arguments_then args i a (suc l) rest r h)
literal_by true truth i a l rest r h = (refl, h.literal_end)
literal_by true falsity i a l rest r h = (refl, h.literal_end)

first_literal_by : (positive : Bool) (atom : Atom) (i a : ℕ) (rest : List Placed) (r : ParserState) → FollowsLiteral i a 1 rest r
    → Follows (Some (in_formula expect.Formula i a 0 [])) (literal_places 0 (record { positive = positive; atom = atom }) ++ rest) r
first_literal_by false atom i a rest r h = (refl, atom_then atom i a 1 rest r h)
first_literal_by true (predicate (bare text) args) i a rest r h = (refl, arguments_then args i a 1 rest r h)
first_literal_by true (predicate (between_quotes text) args) i a rest r h = (refl, arguments_then args i a 1 rest r h)
first_literal_by true truth i a rest r h = (refl, h.literal_end)
first_literal_by true falsity i a rest r h = (refl, h.literal_end)

pub literal_then : (literal : Literal) (i a l : ℕ) (rest : List Placed) (r : ParserState) → FollowsLiteral i a (suc l) rest r
    → Follows (Some (in_formula expect.Literal i a l [])) (literal_places l literal ++ rest) r
literal_then literal = literal_by literal.positive literal.atom

pub joined_then : (literals : List Literal) (i a l : ℕ) (rest : List Placed) (r : ParserState) → ((k : ℕ) → FollowsLiteral i a k rest r)
    → FollowsLiteral i a l (others_joined l literals ++ rest) r
joined_then [] i a l rest r h = h l
joined_then (literal ∷ literals) i a l rest r h =
    let others = joined_then literals i a (suc l) rest r h in
    let next : Follows (Some (in_formula expect.Literal i a l [])) ((literal_places l literal ++ others_joined (suc l) literals) ++ rest) r =
    subst (λ ps. Follows (Some (in_formula expect.Literal i a l [])) ps r) (sym (append_assoc (literal_places l literal) (others_joined (suc l) literals) rest))
    (literal_then literal i a l (others_joined (suc l) literals ++ rest) r others) in
    record { predicate_end = (refl, next); literal_end = (refl, next) }

-- these places follow a formula, whatever it ends with
pub record FollowsFormula (i a : ℕ) (rest : List Placed) (r : ParserState) : Type 0 where
  pub literal : (l : ℕ) → FollowsLiteral i a l rest r
  pub formula_end : (l : ℕ) → Follows (Some (in_formula expect.FormulaEnd i a l [])) rest r

pub formula_then : (f : Formula) (i a : ℕ) (rest : List Placed) (r : ParserState) → FollowsFormula i a rest r
    → Follows (Some (in_formula expect.Formula i a 0 [])) (formula_places f ++ rest) r
formula_then (in_parentheses f) i a rest r h =
    let inner = formula_then f i (suc a) (only CloseParenthesis ∷ rest) r (record {
      literal = λ l. record { predicate_end = (refl, h.formula_end l); literal_end = (refl, h.formula_end l) };
      formula_end = λ l. (refl, h.formula_end l);
    }) in
    (refl, subst (λ ps. Follows (Some (in_formula expect.Formula i (suc a) 0 [])) ps r) (sym (append_assoc (formula_places f) (only CloseParenthesis ∷ []) rest)) inner)
formula_then (disjunction first others) i a rest r h =
    subst (λ ps. Follows (Some (in_formula expect.Formula i a 0 [])) ps r) (sym (append_assoc (literal_places 0 first) (others_joined 1 others) rest))
    (first_literal_by first.positive first.atom i a (others_joined 1 others ++ rest) r (joined_then others i a 1 rest r h.literal))

pub plain_step : (t : Token) → IsTrue (is_plain_token t) → (i l : ℕ) (bs : List Bracket)
    → (step (in_annotations expect.AnnotationsEnd i l bs) t ≡ Some (in_annotations expect.AnnotationsEnd i l bs))
    × (step (in_annotations expect.Annotations i l bs) t ≡ Some (in_annotations expect.AnnotationsEnd i l bs))
plain_step (lower text) h i l bs = (refl, refl)
plain_step (upper text) h i l bs = (refl, refl)
plain_step (number text) h i l bs = (refl, refl)
plain_step (quoted text) h i l bs = (refl, refl)
plain_step distinct h i l bs = (refl, refl)
plain_step (dollar text) h i l bs = (refl, refl)
plain_step unequal h i l bs = (refl, refl)
plain_step (mark OpenParenthesis) h i l bs = cc
plain_step (mark CloseParenthesis) h i l bs = cc
plain_step (mark OpenBracket) h i l bs = cc
plain_step (mark CloseBracket) h i l bs = cc
plain_step (mark OpenBrace) h i l bs = cc
plain_step (mark CloseBrace) h i l bs = cc
plain_step (mark Comma) h i l bs = (refl, refl)
plain_step (mark FullStop) h i l bs = cc
plain_step (mark Bar) h i l bs = (refl, refl)
plain_step (mark Tilde) h i l bs = (refl, refl)
plain_step (mark Equals) h i l bs = (refl, refl)
plain_step (mark Other) h i l bs = (refl, refl)

pub open_step : (b : Bracket) (i l : ℕ) (bs : List Bracket)
    → (step (in_annotations expect.AnnotationsEnd i l bs) (mark (opening b)) ≡ Some (in_annotations expect.AnnotationsEnd i l (b ∷ bs)))
    × (step (in_annotations expect.Annotations i l bs) (mark (opening b)) ≡ Some (in_annotations expect.AnnotationsEnd i l (b ∷ bs)))
open_step parentheses i l bs = (refl, refl)
open_step brackets i l bs = (refl, refl)
open_step braces i l bs = (refl, refl)

pub close_step : (b : Bracket) (i l : ℕ) (bs : List Bracket) → step (in_annotations expect.AnnotationsEnd i l (b ∷ bs)) (mark (closing b)) ≡ Some (in_annotations expect.AnnotationsEnd i l bs)
close_step parentheses i l bs = refl
close_step brackets i l bs = refl
close_step braces i l bs = refl

-- a step that leads to a state, and what follows from there
past : (st : Option ParserState) (s : ParserState) (ps : List Placed) (r : ParserState) → st ≡ Some s → Follows (Some s) ps r → Follows st ps r
past st s ps r is h = subst (λ x. Follows x ps r) (sym is) h

-- from the first token within a bracket on
group_then : (b : Bracket) (inside ts : Annotations) (i l : ℕ) (bs : List Bracket) (rest : List Placed) (r : ParserState)
    → Follows (Some (in_annotations expect.AnnotationsEnd i l (b ∷ bs))) (annotations_places inside ++ only (closing b) ∷ (annotations_places ts ++ rest)) r
    → Follows (Some (in_annotations expect.AnnotationsEnd i l (b ∷ bs))) ((annotations_places inside ++ only (closing b) ∷ annotations_places ts) ++ rest) r
group_then b inside ts i l bs rest r =
    subst (λ ps. Follows (Some (in_annotations expect.AnnotationsEnd i l (b ∷ bs))) ps r) (sym (append_assoc (annotations_places inside) (only (closing b) ∷ annotations_places ts) rest))

pub annotations_then : (ts : Annotations) → AreAnnotations ts → (i l : ℕ) (bs : List Bracket) (rest : List Placed) (r : ParserState)
    → Follows (Some (in_annotations expect.AnnotationsEnd i l bs)) rest r
    → Follows (Some (in_annotations expect.AnnotationsEnd i l bs)) (annotations_places ts ++ rest) r
annotations_then no_more are i l bs rest r h = h
annotations_then (plain t ts) are i l bs rest r h = (refl, past _ _ _ r (plain_step t are.0 i l bs).0 (annotations_then ts are.1 i l bs rest r h))
annotations_then (group b inside ts) are i l bs rest r h =
    let after = annotations_then ts are.1 i l bs rest r h in
    let inner = annotations_then inside are.0 i l (b ∷ bs) (only (closing b) ∷ (annotations_places ts ++ rest)) r (refl, past _ _ _ r (close_step b i l bs) after) in
    (refl, past _ _ _ r (open_step b i l bs).0 (group_then b inside ts i l bs rest r inner))

-- the whole of the annotations, and the end of the item
pub annotations_follow : (ts : Annotations) → MayEnd (Some ts) → (i l : ℕ)
    → Follows (Some (in_annotations expect.Annotations i l [])) (annotations_places ts ++ only CloseParenthesis ∷ only FullStop ∷ []) (in_item expect.Item (suc i))
annotations_follow no_more may i l = absurd may
annotations_follow (plain t ts) may i l = (refl, past _ _ _ _ (plain_step t may.0 i l []).1 (annotations_then ts may.1 i l [] _ _ (refl, (refl, refl))))
annotations_follow (group b inside ts) may i l =
    let after = annotations_then ts may.1 i l [] (only CloseParenthesis ∷ only FullStop ∷ []) (in_item expect.Item (suc i)) (refl, (refl, refl)) in
    let inner = annotations_then inside may.0 i l (b ∷ []) (only (closing b) ∷ (annotations_places ts ++ only CloseParenthesis ∷ only FullStop ∷ [])) _ (refl, past _ _ _ _ (close_step b i l []) after) in
    (refl, past _ _ _ _ (open_step b i l []).1 (group_then b inside ts i l [] _ _ inner))

pub ending_follows : (ending : Option Annotations) → MayEnd ending → (i : ℕ) → FollowsFormula i 0 (ending_places ending) (in_item expect.Item (suc i))
ending_follows None may i = record {
  literal = λ l. record { predicate_end = (refl, (refl, refl)); literal_end = (refl, (refl, refl)) };
  formula_end = λ l. (refl, (refl, refl));
}
ending_follows (Some ts) may i = record {
  literal = λ l. record { predicate_end = (refl, annotations_follow ts may i l); literal_end = (refl, annotations_follow ts may i l) };
  formula_end = λ l. (refl, annotations_follow ts may i l);
}

pub name_step_is : (name : Name) → IsName name → (i : ℕ) → step (in_item expect.Name i) (name_token name) ≡ Some (in_item expect.NameEnd i)
name_step_is (word (bare text)) is i = refl
name_step_is (word (between_quotes text)) is i = refl
name_step_is (integer digits) is i = cond-true (list_all is_ascii_digit digits) _ _ is

pub item_follows : (item : Item) → IsItem item → (i : ℕ) → Follows (Some (in_item expect.Item i)) (item_places i item) (in_item expect.Item (suc i))
item_follows item is i =
    let formula = formula_then item.formula i 0 (ending_places item.annotations) (in_item expect.Item (suc i)) (ending_follows item.annotations is.annotations i) in
    let after = only Comma ∷ (lower item.role, nothing) ∷ only Comma ∷ (formula_places item.formula ++ ending_places item.annotations) in
    let rest : Follows (Some (in_item expect.NameEnd i)) after (in_item expect.Item (suc i)) = (refl, (refl, (refl, formula))) in
    (refl, (refl, (refl, past _ (in_item expect.NameEnd i) after _ (name_step_is item.name is.name i) rest)))

pub items_follow : (items : List Item) → AreItems items → (i : ℕ) → Follows (Some (in_item expect.Item i)) (file_places i items) (in_item expect.Item (i + length items))
items_follow [] are i = ap (in_item expect.Item) (omega arith)
items_follow (item ∷ items) are i =
    let count : suc i + length items ≡ i + length (item ∷ items) = omega arith in
    subst (λ n. Follows (Some (in_item expect.Item i)) (file_places i (item ∷ items)) (in_item expect.Item n)) count
    (follows_append (Some (in_item expect.Item i)) (item_places i item) (file_places (suc i) items) (in_item expect.Item (suc i)) (in_item expect.Item (suc i + length items))
    (item_follows item are.0 i) (items_follow items are.1 (suc i)))

-- a file leads to the state that expects an item, after as many
pub file_follows : (items : List Item) → AreItems items → Follows (Some start) (file_places 0 items) (in_item expect.Item (length items))
file_follows items are =
    let count : 0 + length items ≡ length items = omega arith in
    subst (λ n. Follows (Some start) (file_places 0 items) (in_item expect.Item n)) count (items_follow items are 0)

pub file_runs : (items : List Item) → AreItems items → run (tokens_of (file_places 0 items)) ≡ Some (in_item expect.Item (length items))
file_runs items are = follows_run (Some start) (file_places 0 items) (in_item expect.Item (length items)) (file_follows items are)
