-- What the limits say of an item's literals, their arguments and their variables.
use Rattle.std.proofs.Common.{arith, ◌≡◌, ◌≢◌, ◌≤◌, ℕ, suc, length, Bool, true, false, List, [], ◌∷◌, ◌++◌, sym, ap, subst, ◌∙◌, refl, length-append}
use Rattle.std.specs.Prelude.{Option, Some, None, nat_le, not, ◌&&◌, if◌then◌else◌}
use Rattle.std.specs.List.{AllByRecursion, flat_map, list_any}
use Rattle.std.specs.Str.{bytes_eq}
use Rattle.std.proofs.lemmas.Bool.{leb-false}
use Rattle.pm_scan.specs.declared.offence.CnfKind.{CnfKind}
use Rattle.pm_cnf.specs.declared.limits.Limits.{Limits}
use Rattle.pm_cnf.specs.declared.parser.Expected.TheVariants as expect
use Rattle.pm_scan.specs.declared.token.Mark.TheVariants.{OpenParenthesis, CloseParenthesis, OpenBracket, CloseBracket, OpenBrace, CloseBrace, Comma, FullStop, Bar, Tilde, Equals, Other}
use Rattle.pm_scan.specs.Lexemes.{Token, lower, upper, number, quoted, distinct, dollar, unequal, mark}
use Rattle.pm_cnf.specs.Grammar.{Word, bare, between_quotes, Term, variable, application, Arguments, no_arguments, more_arguments, Atom, predicate, truth, falsity, Literal, Formula, in_parentheses, disjunction, Annotations, Name, word, integer, Item, IsItem, AreItems, Begins, nothing, an_item, a_literal, an_atom, an_argument, a_next_literal, Placed, only, word_token, term_places, arguments_places, others_places, atom_places, literal_places, others_joined, formula_places, annotations_places, ending_places, name_token, item_places, file_places, tokens_of}
use Rattle.pm_cnf.specs.Offences.{with_text, variables_from}
use Rattle.pm_cnf.specs.Meaning.{literals_of, Kept, kept_from, kept_among, kept_literals, variables_in, variables_among, with_texts, item_variables}
use Rattle.pm_cnf.specs.Inside.Machine.{ParserState, step, step_at, begun, past_limit, has_too_many_variables}
use Rattle.pm_cnf.proofs.grammar.Follows.{Follows}
use Rattle.pm_cnf.proofs.grammar.Forward.{in_item, in_formula, formula_then, ending_follows}
use Rattle.pm_cnf.proofs.grammar.Viable.{begun_item}
use Rattle.pm_cnf.proofs.offences.FirstOffence.{variables_from-append}
use Rattle.pm_cnf.proofs.offences.Within.{Within, within_append, item_within, follows_some}
use Rattle.pm_cnf.proofs.Lists.{AllByRecursion-split}

pub tokens_append : (ps qs : List Placed) → tokens_of (ps ++ qs) ≡ tokens_of ps ++ tokens_of qs
tokens_append [] qs = refl
tokens_append (p ∷ ps) qs = ap (λ (ts : List Token). p.0 ∷ ts) (tokens_append ps qs)

-- the variables after some places and others
pub variables_parts : (known : List (List ℕ)) (ps qs : List Placed) → variables_from known (tokens_of (ps ++ qs)) ≡ variables_from (variables_from known (tokens_of ps)) (tokens_of qs)
variables_parts known ps qs = ap (variables_from known) (tokens_append ps qs) ∙ variables_from-append known (tokens_of ps) (tokens_of qs)

-- ---- places

-- no place is past a limit, whatever the variables
abbrev pub PassNoLimit : Limits → List Placed → Type 0
PassNoLimit limits ps = AllByRecursion (λ p. past_limit limits p.1 false ≡ None) ps

never_none : (b : Bool) (j k : CnfKind) → (if b then Some j else Some k) ≡ None → ⊥
never_none true j k is = cc
never_none false j k is = cc

past_few : (limits : Limits) (b : Begins) (many : Bool) → past_limit limits b many ≡ None → past_limit limits b false ≡ None
past_few limits b false past = past
past_few limits (an_item n) true past = past
past_few limits (a_literal n) true past = absurd (never_none (nat_le limits.literals n) _ _ past)
past_few limits (an_argument n nesting) true past = absurd cc
past_few limits nothing true past = absurd cc
past_few limits an_atom true past = absurd cc
past_few limits a_next_literal true past = absurd cc

within_placed : (limits : Limits) (known : List (List ℕ)) (ps : List Placed) → Within limits known ps → PassNoLimit limits ps
within_placed limits known [] within = tt
within_placed limits known (p ∷ ps) within = (past_few limits p.1 (has_too_many_variables limits known p.0) within.0, within_placed limits (variables_from known (p.0 ∷ [])) ps within.1)

pub placed_parts : (limits : Limits) (ps qs : List Placed) → PassNoLimit limits (ps ++ qs) → PassNoLimit limits ps × PassNoLimit limits qs
placed_parts limits = AllByRecursion-split (λ p. past_limit limits p.1 false ≡ None)

-- the arguments of literals are placed
abbrev pub ArgumentsPassNoLimit : Limits → List Kept → Type 0
ArgumentsPassNoLimit limits ks = AllByRecursion (λ k. PassNoLimit limits (arguments_places 1 k.args)) ks

atom_placed : (limits : Limits) (positive : Bool) (atom : Atom) (b : Begins) (others : List Kept) → PassNoLimit limits (atom_places b atom) → ArgumentsPassNoLimit limits others → ArgumentsPassNoLimit limits (kept_from positive atom others)
atom_placed limits positive (predicate w args) b others h more = (h.1, more)
atom_placed limits positive truth b others h more = more
atom_placed limits positive falsity b others h more = more

literal_placed : (limits : Limits) (literal : Literal) (n : ℕ) (others : List Kept) → PassNoLimit limits (literal_places n literal) → ArgumentsPassNoLimit limits others → ArgumentsPassNoLimit limits (kept_from literal.positive literal.atom others)
literal_placed limits literal n others h more = by literal.positive h
  where
    by : (positive : Bool) → PassNoLimit limits (if positive then atom_places (a_literal n) literal.atom else (mark Tilde, a_literal n) ∷ atom_places an_atom literal.atom)
        → ArgumentsPassNoLimit limits (kept_from literal.positive literal.atom others)
    by true k = atom_placed limits literal.positive literal.atom (a_literal n) others k more
    by false k = atom_placed limits literal.positive literal.atom an_atom others k.1 more

literals_placed : (limits : Limits) (literals : List Literal) (n : ℕ) → PassNoLimit limits (others_joined n literals) → ArgumentsPassNoLimit limits (kept_among literals)
literals_placed limits [] n h = tt
literals_placed limits (literal ∷ literals) n h =
    let parts = placed_parts limits (literal_places n literal) (others_joined (suc n) literals) h.1 in
    literal_placed limits literal n (kept_among literals) parts.0 (literals_placed limits literals (suc n) parts.1)

formula_placed : (limits : Limits) (f : Formula) → PassNoLimit limits (formula_places f) → ArgumentsPassNoLimit limits (kept_among (literals_of f))
formula_placed limits (in_parentheses f) h = formula_placed limits f (placed_parts limits (formula_places f) (only CloseParenthesis ∷ []) h.1).0
formula_placed limits (disjunction first others) h =
    let parts = placed_parts limits (literal_places 0 first) (others_joined 1 others) h in
    literal_placed limits first 0 (kept_among others) parts.0 (literals_placed limits others 1 parts.1)

-- ---- variables

pub with_texts_append : (known xs ys : List (List ℕ)) → with_texts known (xs ++ ys) ≡ with_texts (with_texts known xs) ys
with_texts_append known [] ys = refl
with_texts_append known (x ∷ xs) ys = with_texts_append (with_text known x) xs ys

pub word_known : (known : List (List ℕ)) (w : Word) (ts : List Token) → variables_from known (word_token w ∷ ts) ≡ variables_from known ts
word_known known (bare text) ts = refl
word_known known (between_quotes text) ts = refl

pub name_known : (known : List (List ℕ)) (name : Name) (ts : List Token) → variables_from known (name_token name ∷ ts) ≡ variables_from known ts
name_known known (word w) ts = word_known known w ts
name_known known (integer digits) ts = refl

parts_known : (known xs ys : List (List ℕ)) (ps qs : List Placed) → variables_from known (tokens_of ps) ≡ with_texts known xs → variables_from (with_texts known xs) (tokens_of qs) ≡ with_texts (with_texts known xs) ys
    → variables_from known (tokens_of (ps ++ qs)) ≡ with_texts known (xs ++ ys)
parts_known known xs ys ps qs first second =
    variables_parts known ps qs ∙ ap (λ (k : List (List ℕ)). variables_from k (tokens_of qs)) first ∙ second ∙ sym (with_texts_append known xs ys)

-- the tokens of terms have their variables
mutual
  pub term_known : (t : Term) (nesting n : ℕ) (known : List (List ℕ)) → variables_from known (tokens_of (term_places nesting n t)) ≡ with_texts known (variables_in t)
  term_known (variable text) nesting n known = refl
  term_known (application w args) nesting n known = word_known known w (tokens_of (arguments_places (suc nesting) args)) ∙ arguments_known args (suc nesting) known

  pub arguments_known : (ts : Arguments) (nesting : ℕ) (known : List (List ℕ)) → variables_from known (tokens_of (arguments_places nesting ts)) ≡ with_texts known (variables_among ts)
  arguments_known no_arguments nesting known = refl
  arguments_known (more_arguments t ts) nesting known =
      parts_known known (variables_in t) (variables_among ts) (term_places nesting 0 t) (others_places nesting 1 ts) (term_known t nesting 0 known) (others_known ts nesting 1 (with_texts known (variables_in t)))

  pub others_known : (ts : Arguments) (nesting n : ℕ) (known : List (List ℕ)) → variables_from known (tokens_of (others_places nesting n ts)) ≡ with_texts known (variables_among ts)
  others_known no_arguments nesting n known = refl
  others_known (more_arguments t ts) nesting n known =
      parts_known known (variables_in t) (variables_among ts) (term_places nesting n t) (others_places nesting (suc n) ts) (term_known t nesting n known) (others_known ts nesting (suc n) (with_texts known (variables_in t)))

-- the variables of literals
abbrev pub variables_of : List Kept → List (List ℕ)
variables_of ks = flat_map (λ k. variables_among k.args) ks

atom_known : (positive : Bool) (atom : Atom) (b : Begins) (others : List Kept) (qs : List Placed) (known : List (List ℕ))
    → ((k : List (List ℕ)) → variables_from k (tokens_of qs) ≡ with_texts k (variables_of others))
    → variables_from known (tokens_of (atom_places b atom ++ qs)) ≡ with_texts known (variables_of (kept_from positive atom others))
atom_known positive (predicate w args) b others qs known more =
    word_known known w (tokens_of (arguments_places 1 args ++ qs))
    ∙ parts_known known (variables_among args) (variables_of others) (arguments_places 1 args) qs (arguments_known args 1 known) (more (with_texts known (variables_among args)))
atom_known positive truth b others qs known more = more known
atom_known positive falsity b others qs known more = more known

literal_known : (literal : Literal) (n : ℕ) (others : List Kept) (qs : List Placed) (known : List (List ℕ))
    → ((k : List (List ℕ)) → variables_from k (tokens_of qs) ≡ with_texts k (variables_of others))
    → variables_from known (tokens_of (literal_places n literal ++ qs)) ≡ with_texts known (variables_of (kept_from literal.positive literal.atom others))
literal_known literal n others qs known more = by literal.positive
  where
    by : (positive : Bool) → variables_from known (tokens_of ((if positive then atom_places (a_literal n) literal.atom else (mark Tilde, a_literal n) ∷ atom_places an_atom literal.atom) ++ qs))
        ≡ with_texts known (variables_of (kept_from literal.positive literal.atom others))
    by true = atom_known literal.positive literal.atom (a_literal n) others qs known more
    by false = atom_known literal.positive literal.atom an_atom others qs known more

literals_known : (literals : List Literal) (n : ℕ) (known : List (List ℕ)) → variables_from known (tokens_of (others_joined n literals)) ≡ with_texts known (variables_of (kept_among literals))
literals_known [] n known = refl
literals_known (literal ∷ literals) n known = literal_known literal n (kept_among literals) (others_joined (suc n) literals) known (literals_known literals (suc n))

formula_known : (f : Formula) (known : List (List ℕ)) → variables_from known (tokens_of (formula_places f)) ≡ with_texts known (variables_of (kept_among (literals_of f)))
formula_known (in_parentheses f) known = variables_parts known (formula_places f) (only CloseParenthesis ∷ []) ∙ formula_known f known
formula_known (disjunction first others) known = literal_known first 0 (kept_among others) (others_joined 1 others) known (literals_known others 1)

-- after an item no variable is known
ending_known : (e : Option Annotations) (known : List (List ℕ)) → variables_from known (tokens_of (ending_places e)) ≡ []
ending_known None known = refl
ending_known (Some ts) known = variables_parts known (annotations_places ts) (only CloseParenthesis ∷ only FullStop ∷ [])

pub item_known : (item : Item) (n : ℕ) (known : List (List ℕ)) → variables_from known (tokens_of (item_places n item)) ≡ []
item_known item n known =
    name_known known item.name (mark Comma ∷ lower item.role ∷ mark Comma ∷ tokens_of (formula_places item.formula ++ ending_places item.annotations))
    ∙ variables_parts known (formula_places item.formula) (ending_places item.annotations)
    ∙ ending_known item.annotations (variables_from known (tokens_of (formula_places item.formula)))

-- ---- the number of variables

many_none : (limits : Limits) (b : Begins) (many : Bool) → ((n : ℕ) → b ≢ an_item n) → past_limit limits b many ≡ None → many ≡ false
many_none limits b false other past = refl
many_none limits (an_item n) true other past = absurd (other n refl)
many_none limits (a_literal n) true other past = absurd (never_none (nat_le limits.literals n) _ _ past)
many_none limits (an_argument n nesting) true other past = absurd cc
many_none limits nothing true other past = absurd cc
many_none limits an_atom true other past = absurd cc
many_none limits a_next_literal true other past = absurd cc

few_push : (limits : Limits) (known : List (List ℕ)) (text : List ℕ) → has_too_many_variables limits known (upper text) ≡ false → length known ≤ limits.variables → length (with_text known text) ≤ limits.variables
few_push limits known text few most = by (list_any (bytes_eq text) known) few
  where
    by : (found : Bool) → (not found && nat_le limits.variables (length known)) ≡ false → length (if found then known else known ++ text ∷ []) ≤ limits.variables
    by true h = most
    by false h = omega (arith, leb-false limits.variables (length known) h, length-append known (text ∷ []))

few_token : (limits : Limits) (known : List (List ℕ)) (t : Token) (b : Begins) → past_limit limits b (has_too_many_variables limits known t) ≡ None → ((text : List ℕ) → t ≡ upper text → (n : ℕ) → b ≢ an_item n)
    → length known ≤ limits.variables → length (variables_from known (t ∷ [])) ≤ limits.variables
few_token limits known (upper text) b past other most = few_push limits known text (many_none limits b (has_too_many_variables limits known (upper text)) (other text refl) past) most
few_token limits known (mark FullStop) b past other most = omega arith
few_token limits known (mark OpenParenthesis) b past other most = most
few_token limits known (mark CloseParenthesis) b past other most = most
few_token limits known (mark OpenBracket) b past other most = most
few_token limits known (mark CloseBracket) b past other most = most
few_token limits known (mark OpenBrace) b past other most = most
few_token limits known (mark CloseBrace) b past other most = most
few_token limits known (mark Comma) b past other most = most
few_token limits known (mark Bar) b past other most = most
few_token limits known (mark Tilde) b past other most = most
few_token limits known (mark Equals) b past other most = most
few_token limits known (mark Other) b past other most = most
few_token limits known (lower text) b past other most = most
few_token limits known (number text) b past other most = most
few_token limits known (quoted text) b past other most = most
few_token limits known distinct b past other most = most
few_token limits known (dollar text) b past other most = most
few_token limits known unequal b past other most = most

-- an upper word that is allowed begins no item
upper_goes : (s : ParserState) (text : List ℕ) (ps : List Placed) (r : ParserState) → Follows (step s (upper text)) ps r → (n : ℕ) → begun s (upper text) ≢ an_item n
upper_goes s text ps r follows n is =
    subst (λ e. Follows (step_at e s (upper text)) ps r) (begun_item s.expected s (upper text) n is).0 follows

few_after : (limits : Limits) (ps qs : List Placed) (s r : ParserState) (known : List (List ℕ)) → Within limits known ps → Follows (Some s) (ps ++ qs) r → length known ≤ limits.variables
    → length (variables_from known (tokens_of ps)) ≤ limits.variables
few_after limits [] qs s r known within follows most = most
few_after limits (p ∷ ps) qs s r known within follows most =
    let next = follows_some (step s p.0) (ps ++ qs) r follows.1 in
    let one = few_token limits known p.0 p.1 within.0 (λ text is n item. upper_goes s text (ps ++ qs) r (subst (λ (t : Token). Follows (step s t) (ps ++ qs) r) is follows.1) n (ap (begun s) (sym is) ∙ follows.0 ∙ item)) most in
    let more = few_after limits ps qs next.0 r (variables_from known (p.0 ∷ [])) within.1 (subst (λ (o : Option ParserState). Follows o (ps ++ qs) r) next.1 follows.1) one in
    subst (λ (k : List (List ℕ)). length k ≤ limits.variables) (sym (variables_from-append known (p.0 ∷ []) (tokens_of ps))) more

-- what the limits say of an item
pub record IsLimited (limits : Limits) (item : Item) : Type 0 where
  pub literals : length (literals_of item.formula) ≤ limits.literals
  pub arguments : ArgumentsPassNoLimit limits (kept_literals item)
  pub variables : length (item_variables item) ≤ limits.variables

item_limited : (limits : Limits) (item : Item) (n : ℕ) → IsItem item → Within limits [] (item_places n item) → IsLimited limits item
item_limited limits item n is within =
    let name : List (List ℕ) = variables_from [] (name_token item.name ∷ []) in
    let named : name ≡ [] = name_known [] item.name [] in
    let formula : Within limits [] (formula_places item.formula) =
    subst (λ (k : List (List ℕ)). Within limits k (formula_places item.formula)) named (within_append limits name (formula_places item.formula) (ending_places item.annotations) within.1.1.1.1.1.1).0 in
    let follows = formula_then item.formula n 0 (ending_places item.annotations) (in_item expect.Item (suc n)) (ending_follows item.annotations is.annotations n) in
    record {
      literals = (item_within limits [] n item within).1;
      arguments = formula_placed limits item.formula (within_placed limits [] (formula_places item.formula) formula);
      variables = subst (λ (k : List (List ℕ)). length k ≤ limits.variables) (formula_known item.formula [])
          (few_after limits (formula_places item.formula) (ending_places item.annotations) (in_formula expect.Formula n 0 0 []) (in_item expect.Item (suc n)) [] formula follows (omega arith));
    }

-- Each item of a file that goes past no limit is limited.
pub items_limited : (limits : Limits) (items : List Item) (n : ℕ) → AreItems items → Within limits [] (file_places n items) → AllByRecursion (IsLimited limits) items
items_limited limits [] n are within = tt
items_limited limits (item ∷ items) n are within =
    let parts = within_append limits [] (item_places n item) (file_places (suc n) items) within in (
      item_limited limits item n are.0 parts.0,
      items_limited limits items (suc n) are.1 (subst (λ (k : List (List ℕ)). Within limits k (file_places (suc n) items)) (item_known item n []) parts.1),
    )
