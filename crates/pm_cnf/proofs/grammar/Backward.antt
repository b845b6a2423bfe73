-- Tokens that the step machine takes to the end of an item are printed by the grammar, from any state on.
use Rattle.std.proofs.Common.{◌≡◌, ℕ, zero, suc, ◌⊎◌, inl, inr, Bool, true, false, ◌||◌, IsTrue, if◌then◌else◌, List, [], ◌∷◌, ◌++◌, length, Option, Some, None, codes, refl, sym, ◌∙◌, ap, subst, append_assoc}
use Rattle.std.specs.List.{list_all}
use Rattle.std.specs.Char.{is_ascii_digit}
use Rattle.std.specs.Str.{bytes_eq}
use Rattle.std.proofs.lemmas.Slice.Eq.{bytes_eq-Decides}
use Rattle.std.proofs.lemmas.Option.{same_Some}
use Rattle.pm_scan.specs.declared.token.Mark.TheVariants.{OpenParenthesis, CloseParenthesis, OpenBracket, CloseBracket, OpenBrace, CloseBrace, Comma, FullStop, Bar, Tilde}
use Rattle.pm_cnf.specs.declared.parser.Expected.{Expected}
use Rattle.pm_cnf.specs.declared.parser.Expected.TheVariants as expect
use Rattle.pm_scan.specs.Lexemes.{Token, lower, upper, number, quoted, dollar, mark}
use Rattle.pm_cnf.specs.Grammar.{bare, between_quotes, Term, variable, application, Arguments, no_arguments, more_arguments, Atom, predicate, truth, falsity, Literal, Formula, in_parentheses, disjunction, Bracket, parentheses, brackets, braces, Annotations, no_more, plain, group, Name, word, integer, Item, Begins, nothing, an_item, a_literal, an_atom, Placed, only, term_places, arguments_places, others_places, atom_places, literal_places, others_joined, formula_places, opening, closing, annotations_places, name_token, ending_places, file_places, tokens_of, is_plain_token, AreAnnotations, MayEnd, IsName, IsItem, AreItems}
use Rattle.pm_cnf.specs.Offences.{AreWhole}
use Rattle.pm_cnf.specs.Inside.Machine.{ParserState, start, step, run_from, item_step, name_step, role_step, is_constant, atom_step, literal_step, formula_step, formula_end_step, literal_end_step, predicate_end_step, term_step, term_end_step, function_end_step, annotation_step, annotations_end_step, stop_step}
use Rattle.pm_cnf.proofs.grammar.Follows.{run_none}
use Rattle.pm_cnf.proofs.grammar.Forward.{in_formula}
use Rattle.pm_cnf.proofs.grammar.Stages.{Stage, between_items, after_cnf, at_name, after_name, at_role, after_role, at_formula, at_literal, at_atom, after_predicate, after_literal, at_term, after_function, after_term, after_formula, at_annotations, in_brackets, at_stop, stage_state, none_is}

-- the items after an item
abbrev LeftItems : Type 0
LeftItems = (items : List Item) × AreItems items

abbrev SomeAnnotations : Type 0
SomeAnnotations = (ts : Annotations) × AreAnnotations ts

abbrev SomeEnding : Type 0
SomeEnding = (ending : Option Annotations) × MayEnd ending

-- what is left after a group in these brackets
abbrev LeftInBrackets : List Bracket → Type 0
LeftInBrackets [] = LeftItems
LeftInBrackets (b ∷ bs) = SomeAnnotations × LeftInBrackets bs

abbrev brackets_left : ℕ → (bs : List Bracket) → LeftInBrackets bs → List Placed
brackets_left i [] x = only CloseParenthesis ∷ only FullStop ∷ file_places (suc i) x.0
brackets_left i (b ∷ bs) x = only (closing b) ∷ (annotations_places x.0.0 ++ brackets_left i bs x.1)

-- what is left after a formula in so many parentheses
abbrev LeftInParentheses : ℕ → Type 0
LeftInParentheses zero = SomeEnding × LeftItems
LeftInParentheses (suc a) = LeftInParentheses a

abbrev formula_left : ℕ → (a : ℕ) → LeftInParentheses a → List Placed
formula_left i zero x = ending_places x.0.0 ++ file_places (suc i) x.1.0
formula_left i (suc a) x = only CloseParenthesis ∷ formula_left i a x

-- what is left after a term, in these lists of arguments
abbrev LeftInArguments : ℕ → List ℕ → Type 0
LeftInArguments a [] = List Literal × LeftInParentheses a
LeftInArguments a (n ∷ counts) = Arguments × LeftInArguments a counts

abbrev arguments_left : ℕ → (a l : ℕ) → (counts : List ℕ) → LeftInArguments a counts → List Placed
arguments_left i a l [] x = others_joined l x.0 ++ formula_left i a x.1
arguments_left i a l (n ∷ counts) x = others_places (suc (length counts)) n x.0 ++ arguments_left i a l counts x.1

abbrev LeftFormula : Type 0
LeftFormula = Formula × LeftInParentheses 0

abbrev LeftRole : Type 0
LeftRole = List ℕ × LeftFormula

abbrev LeftName : Type 0
LeftName = ((name : Name) × IsName name) × LeftRole

abbrev formula_and_left : ℕ → LeftFormula → List Placed
formula_and_left i x = formula_places x.0 ++ formula_left i 0 x.1

abbrev role_left : ℕ → LeftRole → List Placed
role_left i x = (lower x.0, nothing) ∷ only Comma ∷ formula_and_left i x.1

abbrev name_left : ℕ → LeftName → List Placed
name_left i x = (name_token x.0.0, nothing) ∷ only Comma ∷ role_left i x.1

-- what is left of a file
abbrev Left : Stage → Type 0
Left between_items = LeftItems
Left after_cnf = LeftName
Left at_name = LeftName
Left after_name = LeftRole
Left at_role = LeftRole
Left after_role = LeftFormula
Left (at_formula a) = Formula × LeftInParentheses a
Left (at_literal a l) = Literal × LeftInArguments a []
Left (at_atom a l) = Atom × LeftInArguments a []
Left (after_predicate a l) = Arguments × LeftInArguments a []
Left (after_literal a l) = LeftInArguments a []
Left (at_term a l n counts) = Term × LeftInArguments a (suc n ∷ counts)
Left (after_function a l n counts) = Arguments × LeftInArguments a (n ∷ counts)
Left (after_term a l n counts) = LeftInArguments a (n ∷ counts)
Left (after_formula a l) = LeftInParentheses a
Left (at_annotations l) = ((ts : Annotations) × MayEnd (Some ts)) × LeftItems
Left (in_brackets l bs) = SomeAnnotations × LeftInBrackets bs
Left (at_stop l) = LeftItems

abbrev places_left : ℕ → (g : Stage) → Left g → List Placed
places_left i between_items x = file_places i x.0
places_left i after_cnf x = only OpenParenthesis ∷ name_left i x
places_left i at_name x = name_left i x
places_left i after_name x = only Comma ∷ role_left i x
places_left i at_role x = role_left i x
places_left i after_role x = only Comma ∷ formula_and_left i x
places_left i (at_formula a) x = formula_places x.0 ++ formula_left i a x.1
places_left i (at_literal a l) x = literal_places l x.0 ++ arguments_left i a (suc l) [] x.1
places_left i (at_atom a l) x = atom_places an_atom x.0 ++ arguments_left i a l [] x.1
places_left i (after_predicate a l) x = arguments_places 1 x.0 ++ arguments_left i a l [] x.1
places_left i (after_literal a l) x = arguments_left i a l [] x
places_left i (at_term a l n counts) x = term_places (suc (length counts)) n x.0 ++ arguments_left i a l (suc n ∷ counts) x.1
places_left i (after_function a l n counts) x = arguments_places (suc (suc (length counts))) x.0 ++ arguments_left i a l (n ∷ counts) x.1
places_left i (after_term a l n counts) x = arguments_left i a l (n ∷ counts) x
places_left i (after_formula a l) x = formula_left i a x
places_left i (at_annotations l) x = annotations_places x.0.0 ++ only CloseParenthesis ∷ only FullStop ∷ file_places (suc i) x.1.0
places_left i (in_brackets l bs) x = annotations_places x.0.0 ++ brackets_left i bs x.1
places_left i (at_stop l) x = only FullStop ∷ file_places (suc i) x.0

-- the tokens are what some choice prints
record ParsesAs {A : Type 0} (places : A → List Placed) (ts : List Token) : Type 0 where
  left : A
  are : tokens_of (places left) ≡ ts

abbrev ParsesStage : ℕ → Stage → List Token → Type 0
ParsesStage i g ts = ParsesAs (places_left i g) ts

-- the tokens are read from each state from which they lead to this one
abbrev ParsesTo : ParserState → List Token → Type 0
ParsesTo e ts = (i : ℕ) (g : Stage) → run_from (Some (stage_state i g)) ts ≡ Some e → ParsesStage i g ts

-- the tokens are the same however the parts are bracketed
joins : (t : Token) (xs ys zs : List Placed) → t ∷ tokens_of ((xs ++ ys) ++ zs) ≡ t ∷ tokens_of (xs ++ (ys ++ zs))
joins t xs ys zs = ap (λ ps. t ∷ tokens_of ps) (append_assoc xs ys zs)

-- no run goes on from no state
dead : {A : Type 0} (ts : List Token) (e : ParserState) → run_from None ts ≡ Some e → A
dead ts e h = none_is e (sym (run_none ts) ∙ h)

dead_variable : {A : Type 0} (ts : List Token) (s e : ParserState) → s.expected ≡ expect.VariableEnd → e.expected ≡ expect.Item → run_from (Some s) ts ≡ Some e → A
dead_variable [] s e is ended h =
    let clash : expect.VariableEnd ≡ expect.Item = sym is ∙ ap (λ x. x.expected) (same_Some s e h) ∙ ended in
    cc
dead_variable (t ∷ ts) s e is ended h =
    dead ts e (subst (λ x. run_from (step (record { expected = x; items = s.items; around = s.around; literals = s.literals; arguments = s.arguments; open_brackets = s.open_brackets }) t) ts ≡ Some e) is h)

-- what a run behind a test tells
run_if : (b : Bool) (s e : ParserState) (ts : List Token) → run_from (if b then Some s else None) ts ≡ Some e → (b ≡ true) × (run_from (Some s) ts ≡ Some e)
run_if true s e ts h = (refl, h)
run_if false s e ts h = dead ts e h

from_item : (t : Token) (ts : List Token) (e : ParserState) → ParsesTo e ts → (i : ℕ) → run_from (item_step (stage_state i between_items) t) ts ≡ Some e → ParsesStage i between_items (t ∷ ts)
from_item (lower text) ts e ih i h =
    let test = run_if (bytes_eq text (codes "cnf")) (stage_state i after_cnf) e ts h in
    let r = ih i after_cnf test.1 in
    let x = r.left in
    let ending = x.1.1.1.0 in
    let item : Item = record { name = x.0.0; role = x.1.0; formula = x.1.1.0; annotations = ending.0 } in
    let is : IsItem item = record { name = x.0.1; annotations = ending.1 } in
    let others = x.1.1.1.1 in
    let word_is = (bytes_eq-Decides text (codes "cnf")).0 test.0 in
    let places : file_places i (item ∷ others.0) ≡ (lower (codes "cnf"), an_item i) ∷ places_left i after_cnf x =
    ap (λ ps. (lower (codes "cnf"), an_item i) ∷ only OpenParenthesis ∷ (name_token x.0.0, nothing) ∷ only Comma ∷ (lower x.1.0, nothing) ∷ only Comma ∷ ps)
    (append_assoc (formula_places x.1.1.0) (ending_places ending.0) (file_places (suc i) others.0)) in
    record { left = (item ∷ others.0, (is, others.1)); are = ap tokens_of places ∙ ap (λ w. lower w ∷ tokens_of (places_left i after_cnf x)) (sym word_is) ∙ ap (λ us. lower text ∷ us) r.are }
from_item t ts e ih i h = dead ts e h

from_opening : (t : Token) (ts : List Token) (e : ParserState) → ParsesTo e ts → (i : ℕ) → run_from (step (stage_state i after_cnf) t) ts ≡ Some e → ParsesStage i after_cnf (t ∷ ts)
from_opening (mark OpenParenthesis) ts e ih i h = let r = ih i at_name h in record { left = r.left; are = ap (λ us. mark OpenParenthesis ∷ us) r.are }
from_opening t ts e ih i h = dead ts e h

from_name : (t : Token) (ts : List Token) (e : ParserState) → ParsesTo e ts → (i : ℕ) → run_from (name_step (stage_state i at_name) t) ts ≡ Some e → ParsesStage i at_name (t ∷ ts)
from_name (lower text) ts e ih i h = let r = ih i after_name h in record { left = ((word (bare text), tt), r.left); are = ap (λ us. lower text ∷ us) r.are }
from_name (quoted text) ts e ih i h = let r = ih i after_name h in record { left = ((word (between_quotes text), tt), r.left); are = ap (λ us. quoted text ∷ us) r.are }
from_name (number text) ts e ih i h =
    let test = run_if (list_all is_ascii_digit text) (stage_state i after_name) e ts h in
    let r = ih i after_name test.1 in
    record { left = ((integer text, test.0), r.left); are = ap (λ us. number text ∷ us) r.are }
from_name t ts e ih i h = dead ts e h

from_name_end : (t : Token) (ts : List Token) (e : ParserState) → ParsesTo e ts → (i : ℕ) → run_from (step (stage_state i after_name) t) ts ≡ Some e → ParsesStage i after_name (t ∷ ts)
from_name_end (mark Comma) ts e ih i h = let r = ih i at_role h in record { left = r.left; are = ap (λ us. mark Comma ∷ us) r.are }
from_name_end t ts e ih i h = dead ts e h

from_role : (t : Token) (ts : List Token) (e : ParserState) → ParsesTo e ts → (i : ℕ) → run_from (role_step (stage_state i at_role) t) ts ≡ Some e → ParsesStage i at_role (t ∷ ts)
from_role (lower text) ts e ih i h = let r = ih i after_role h in record { left = (text, r.left); are = ap (λ us. lower text ∷ us) r.are }
from_role t ts e ih i h = dead ts e h

from_role_end : (t : Token) (ts : List Token) (e : ParserState) → ParsesTo e ts → (i : ℕ) → run_from (step (stage_state i after_role) t) ts ≡ Some e → ParsesStage i after_role (t ∷ ts)
from_role_end (mark Comma) ts e ih i h = let r = ih i (at_formula 0) h in record { left = r.left; are = ap (λ us. mark Comma ∷ us) r.are }
from_role_end t ts e ih i h = dead ts e h

-- an atom that begins this, and what is left after it
abbrev atom_left : Begins → ℕ → (a : ℕ) → ℕ → Atom × LeftInArguments a [] → List Placed
atom_left b i a l x = atom_places b x.0 ++ arguments_left i a l [] x.1

constant_is : (text : List ℕ) → is_constant text ≡ true → (text ≡ codes "$true") ⊎ (text ≡ codes "$false")
constant_is text = by (bytes_eq text (codes "$true")) (bytes_eq text (codes "$false")) (bytes_eq-Decides text (codes "$true")).0 (bytes_eq-Decides text (codes "$false")).0
  where
    by : {P Q : Type 0} (b c : Bool) → (b ≡ true → P) → (c ≡ true → Q) → (b || c) ≡ true → P ⊎ Q
    by true c p q h = inl (p refl)
    by false true p q h = inr (q refl)
    by false false p q h = cc

from_constant : (text : List ℕ) (ts : List Token) (b : Begins) (i a l : ℕ) → (text ≡ codes "$true") ⊎ (text ≡ codes "$false") → ParsesStage i (after_literal a l) ts → ParsesAs (atom_left b i a l) (dollar text ∷ ts)
from_constant text ts b i a l (inl is) r = record { left = (truth, r.left); are = ap (λ w. dollar w ∷ tokens_of (places_left i (after_literal a l) r.left)) (sym is) ∙ ap (λ us. dollar text ∷ us) r.are }
from_constant text ts b i a l (inr is) r = record { left = (falsity, r.left); are = ap (λ w. dollar w ∷ tokens_of (places_left i (after_literal a l) r.left)) (sym is) ∙ ap (λ us. dollar text ∷ us) r.are }

from_atom : (t : Token) (ts : List Token) (e : ParserState) → e.expected ≡ expect.Item → ParsesTo e ts → (b : Begins) (x : Expected) (i a l : ℕ) → run_from (atom_step (in_formula x i a l []) t) ts ≡ Some e
    → ParsesAs (atom_left b i a l) (t ∷ ts)
from_atom (lower text) ts e ended ih b x i a l h = let r = ih i (after_predicate a l) h in record { left = (predicate (bare text) r.left.0, r.left.1); are = ap (λ us. lower text ∷ us) r.are }
from_atom (quoted text) ts e ended ih b x i a l h = let r = ih i (after_predicate a l) h in record { left = (predicate (between_quotes text) r.left.0, r.left.1); are = ap (λ us. quoted text ∷ us) r.are }
from_atom (upper text) ts e ended ih b x i a l h = dead_variable ts (in_formula expect.VariableEnd i a l []) e refl ended h
from_atom (dollar text) ts e ended ih b x i a l h =
    let test = run_if (is_constant text) (stage_state i (after_literal a l)) e ts h in
    from_constant text ts b i a l (constant_is text test.0) (ih i (after_literal a l) test.1)
from_atom t ts e ended ih b x i a l h = dead ts e h

abbrev literal_left : ℕ → (a : ℕ) → ℕ → Literal × LeftInArguments a [] → List Placed
literal_left i a l x = literal_places l x.0 ++ arguments_left i a (suc l) [] x.1

-- an atom without a ~ is a literal
as_literal : (ts : List Token) (i a l : ℕ) → ParsesAs (atom_left (a_literal l) i a (suc l)) ts → ParsesAs (literal_left i a l) ts
as_literal ts i a l r = record { left = (record { positive = true; atom = r.left.0 }, r.left.1); are = r.are }

from_literal : (t : Token) (ts : List Token) (e : ParserState) → e.expected ≡ expect.Item → ParsesTo e ts → (x : Expected) (i a l : ℕ) → run_from (literal_step (in_formula x i a l []) t) ts ≡ Some e
    → ParsesAs (literal_left i a l) (t ∷ ts)
from_literal (mark Tilde) ts e ended ih x i a l h =
    let r = ih i (at_atom a (suc l)) h in
    record { left = (record { positive = false; atom = r.left.0 }, r.left.1); are = ap (λ us. mark Tilde ∷ us) r.are }
from_literal t ts e ended ih x i a l h = as_literal (t ∷ ts) i a l (from_atom t ts e ended ih (a_literal l) x i a (suc l) h)

-- a literal is the first of a formula
as_formula : (ts : List Token) (i a : ℕ) → ParsesAs (literal_left i a 0) ts → ParsesStage i (at_formula a) ts
as_formula ts i a r = record {
  left = (disjunction r.left.0 r.left.1.0, r.left.1.1);
  are = ap tokens_of (append_assoc (literal_places 0 r.left.0) (others_joined 1 r.left.1.0) (formula_left i a r.left.1.1)) ∙ r.are;
}

from_formula : (t : Token) (ts : List Token) (e : ParserState) → e.expected ≡ expect.Item → ParsesTo e ts → (i a : ℕ) → run_from (formula_step (stage_state i (at_formula a)) t) ts ≡ Some e → ParsesStage i (at_formula a) (t ∷ ts)
from_formula (mark OpenParenthesis) ts e ended ih i a h =
    let r = ih i (at_formula (suc a)) h in
    record {
      left = (in_parentheses r.left.0, r.left.1);
      are = joins (mark OpenParenthesis) (formula_places r.left.0) (only CloseParenthesis ∷ []) (formula_left i a r.left.1) ∙ ap (λ us. mark OpenParenthesis ∷ us) r.are;
    }
from_formula t ts e ended ih i a h = as_formula (t ∷ ts) i a (from_literal t ts e ended ih expect.Formula i a 0 h)

from_formula_end : (t : Token) (ts : List Token) (e : ParserState) → ParsesTo e ts → (x : Expected) (i a l : ℕ) → run_from (formula_end_step (in_formula x i a l []) t) ts ≡ Some e → ParsesAs (formula_left i a) (t ∷ ts)
from_formula_end (mark CloseParenthesis) ts e ih x i zero l h =
    let r = ih i (at_stop l) h in
    record { left = ((None, tt), r.left); are = ap (λ us. mark CloseParenthesis ∷ us) r.are }
from_formula_end (mark CloseParenthesis) ts e ih x i (suc a) l h = let r = ih i (after_formula a l) h in record { left = r.left; are = ap (λ us. mark CloseParenthesis ∷ us) r.are }
from_formula_end (mark Comma) ts e ih x i zero l h =
    let r = ih i (at_annotations l) h in
    record {
      left = ((Some r.left.0.0, r.left.0.1), r.left.1);
      are = joins (mark Comma) (annotations_places r.left.0.0) (only CloseParenthesis ∷ only FullStop ∷ []) (file_places (suc i) r.left.1.0) ∙ ap (λ us. mark Comma ∷ us) r.are;
    }
from_formula_end (mark Comma) ts e ih x i (suc a) l h = dead ts e h
from_formula_end t ts e ih x i a l h = dead ts e h

-- no literal more, or no arguments
as_literal_end : (ts : List Token) (i a l : ℕ) → ParsesAs (formula_left i a) ts → ParsesAs (arguments_left i a l []) ts
as_literal_end ts i a l r = record { left = ([], r.left); are = r.are }

from_literal_end : (t : Token) (ts : List Token) (e : ParserState) → ParsesTo e ts → (x : Expected) (i a l : ℕ) → run_from (literal_end_step (in_formula x i a l []) t) ts ≡ Some e → ParsesAs (arguments_left i a l []) (t ∷ ts)
from_literal_end (mark Bar) ts e ih x i a l h =
    let r = ih i (at_literal a l) h in
    record {
      left = (r.left.0 ∷ r.left.1.0, r.left.1.1);
      are = joins (mark Bar) (literal_places l r.left.0) (others_joined (suc l) r.left.1.0) (formula_left i a r.left.1.1) ∙ ap (λ us. mark Bar ∷ us) r.are;
    }
from_literal_end t ts e ih x i a l h = as_literal_end (t ∷ ts) i a l (from_formula_end t ts e ih x i a l h)

as_predicate_end : (ts : List Token) (i a l : ℕ) → ParsesAs (arguments_left i a l []) ts → ParsesStage i (after_predicate a l) ts
as_predicate_end ts i a l r = record { left = (no_arguments, r.left); are = r.are }

from_predicate_end : (t : Token) (ts : List Token) (e : ParserState) → ParsesTo e ts → (i a l : ℕ) → run_from (predicate_end_step (stage_state i (after_predicate a l)) t) ts ≡ Some e → ParsesStage i (after_predicate a l) (t ∷ ts)
from_predicate_end (mark OpenParenthesis) ts e ih i a l h =
    let r = ih i (at_term a l 0 []) h in
    record {
      left = (more_arguments r.left.0 r.left.1.0, r.left.1.1);
      are = joins (mark OpenParenthesis) (term_places 1 0 r.left.0) (others_places 1 1 r.left.1.0) (arguments_left i a l [] r.left.1.1) ∙ ap (λ us. mark OpenParenthesis ∷ us) r.are;
    }
from_predicate_end t ts e ih i a l h = as_predicate_end (t ∷ ts) i a l (from_literal_end t ts e ih expect.PredicateEnd i a l h)

from_term : (t : Token) (ts : List Token) (e : ParserState) → ParsesTo e ts → (i a l n : ℕ) (counts : List ℕ) → run_from (term_step (stage_state i (at_term a l n counts)) t) ts ≡ Some e → ParsesStage i (at_term a l n counts) (t ∷ ts)
from_term (lower text) ts e ih i a l n counts h = let r = ih i (after_function a l (suc n) counts) h in record { left = (application (bare text) r.left.0, r.left.1); are = ap (λ us. lower text ∷ us) r.are }
from_term (quoted text) ts e ih i a l n counts h = let r = ih i (after_function a l (suc n) counts) h in record { left = (application (between_quotes text) r.left.0, r.left.1); are = ap (λ us. quoted text ∷ us) r.are }
from_term (upper text) ts e ih i a l n counts h = let r = ih i (after_term a l (suc n) counts) h in record { left = (variable text, r.left); are = ap (λ us. upper text ∷ us) r.are }
from_term t ts e ih i a l n counts h = dead ts e h

from_term_end : (t : Token) (ts : List Token) (e : ParserState) → ParsesTo e ts → (x : Expected) (i a l n : ℕ) (counts : List ℕ) → run_from (term_end_step (in_formula x i a l (n ∷ counts)) t) ts ≡ Some e
    → ParsesAs (arguments_left i a l (n ∷ counts)) (t ∷ ts)
from_term_end (mark Comma) ts e ih x i a l n counts h =
    let r = ih i (at_term a l n counts) h in
    record {
      left = (more_arguments r.left.0 r.left.1.0, r.left.1.1);
      are = joins (mark Comma) (term_places (suc (length counts)) n r.left.0) (others_places (suc (length counts)) (suc n) r.left.1.0) (arguments_left i a l counts r.left.1.1) ∙ ap (λ us. mark Comma ∷ us) r.are;
    }
from_term_end (mark CloseParenthesis) ts e ih x i a l n [] h = let r = ih i (after_literal a l) h in record { left = (no_arguments, r.left); are = ap (λ us. mark CloseParenthesis ∷ us) r.are }
from_term_end (mark CloseParenthesis) ts e ih x i a l n (m ∷ counts) h = let r = ih i (after_term a l m counts) h in record { left = (no_arguments, r.left); are = ap (λ us. mark CloseParenthesis ∷ us) r.are }
from_term_end t ts e ih x i a l n counts h = dead ts e h

parses_function_end : (ts : List Token) (i a l n : ℕ) (counts : List ℕ) → ParsesAs (arguments_left i a l (n ∷ counts)) ts → ParsesStage i (after_function a l n counts) ts
parses_function_end ts i a l n counts r = record { left = (no_arguments, r.left); are = r.are }

from_function_end : (t : Token) (ts : List Token) (e : ParserState) → ParsesTo e ts → (i a l n : ℕ) (counts : List ℕ) → run_from (function_end_step (stage_state i (after_function a l n counts)) t) ts ≡ Some e
    → ParsesStage i (after_function a l n counts) (t ∷ ts)
from_function_end (mark OpenParenthesis) ts e ih i a l n counts h =
    let r = ih i (at_term a l 0 (n ∷ counts)) h in
    let k = suc (suc (length counts)) in
    record {
      left = (more_arguments r.left.0 r.left.1.0, r.left.1.1);
      are = joins (mark OpenParenthesis) (term_places k 0 r.left.0) (others_places k 1 r.left.1.0) (arguments_left i a l (n ∷ counts) r.left.1.1) ∙ ap (λ us. mark OpenParenthesis ∷ us) r.are;
    }
from_function_end t ts e ih i a l n counts h = parses_function_end (t ∷ ts) i a l n counts (from_term_end t ts e ih expect.FunctionEnd i a l n counts h)

-- a plain token, and the annotations after it
plain_then : (t : Token) (ts : List Token) (i l : ℕ) (bs : List Bracket) → IsTrue (is_plain_token t) → ParsesStage i (in_brackets l bs) ts → ParsesStage i (in_brackets l bs) (t ∷ ts)
plain_then t ts i l bs is r = record { left = ((plain t r.left.0.0, (is, r.left.0.1)), r.left.1); are = ap (λ us. t ∷ us) r.are }

-- an opening mark, and the annotations after it
opening_then : (b : Bracket) (ts : List Token) (i l : ℕ) (bs : List Bracket) → ParsesStage i (in_brackets l (b ∷ bs)) ts → ParsesStage i (in_brackets l bs) (mark (opening b) ∷ ts)
opening_then b ts i l bs r = record {
  left = ((group b r.left.0.0 r.left.1.0.0, (r.left.0.1, r.left.1.0.1)), r.left.1.1);
  are = joins (mark (opening b)) (annotations_places r.left.0.0) (only (closing b) ∷ annotations_places r.left.1.0.0) (brackets_left i bs r.left.1.1) ∙ ap (λ us. mark (opening b) ∷ us) r.are;
}

closing_then : (b : Bracket) (ts : List Token) (i l : ℕ) (bs : List Bracket) → ParsesStage i (in_brackets l bs) ts → ParsesStage i (in_brackets l (b ∷ bs)) (mark (closing b) ∷ ts)
closing_then b ts i l bs r = record { left = ((no_more, tt), r.left); are = ap (λ us. mark (closing b) ∷ us) r.are }

from_brackets : (t : Token) (ts : List Token) (e : ParserState) → ParsesTo e ts → (i l : ℕ) (bs : List Bracket) → run_from (annotations_end_step (stage_state i (in_brackets l bs)) t) ts ≡ Some e → ParsesStage i (in_brackets l bs) (t ∷ ts)
from_brackets (mark OpenParenthesis) ts e ih i l bs h = opening_then parentheses ts i l bs (ih i (in_brackets l (parentheses ∷ bs)) h)
from_brackets (mark OpenBracket) ts e ih i l bs h = opening_then brackets ts i l bs (ih i (in_brackets l (brackets ∷ bs)) h)
from_brackets (mark OpenBrace) ts e ih i l bs h = opening_then braces ts i l bs (ih i (in_brackets l (braces ∷ bs)) h)
from_brackets (mark CloseParenthesis) ts e ih i l [] h = let r = ih i (at_stop l) h in record { left = ((no_more, tt), r.left); are = ap (λ us. mark CloseParenthesis ∷ us) r.are }
from_brackets (mark CloseParenthesis) ts e ih i l (parentheses ∷ bs) h = closing_then parentheses ts i l bs (ih i (in_brackets l bs) h)
from_brackets (mark CloseParenthesis) ts e ih i l (brackets ∷ bs) h = dead ts e h
from_brackets (mark CloseParenthesis) ts e ih i l (braces ∷ bs) h = dead ts e h
from_brackets (mark CloseBracket) ts e ih i l [] h = dead ts e h
from_brackets (mark CloseBracket) ts e ih i l (parentheses ∷ bs) h = dead ts e h
from_brackets (mark CloseBracket) ts e ih i l (brackets ∷ bs) h = closing_then brackets ts i l bs (ih i (in_brackets l bs) h)
from_brackets (mark CloseBracket) ts e ih i l (braces ∷ bs) h = dead ts e h
from_brackets (mark CloseBrace) ts e ih i l [] h = dead ts e h
from_brackets (mark CloseBrace) ts e ih i l (parentheses ∷ bs) h = dead ts e h
from_brackets (mark CloseBrace) ts e ih i l (brackets ∷ bs) h = dead ts e h
from_brackets (mark CloseBrace) ts e ih i l (braces ∷ bs) h = closing_then braces ts i l bs (ih i (in_brackets l bs) h)
from_brackets (mark FullStop) ts e ih i l bs h = dead ts e h
from_brackets t ts e ih i l bs h = plain_then t ts i l bs refl (ih i (in_brackets l bs) h)

-- annotations begin with a token that is plain or opens a group
plain_first : (t : Token) (ts : List Token) (i l : ℕ) → IsTrue (is_plain_token t) → ParsesStage i (in_brackets l []) ts → ParsesStage i (at_annotations l) (t ∷ ts)
plain_first t ts i l is r = record { left = ((plain t r.left.0.0, (is, r.left.0.1)), r.left.1); are = ap (λ us. t ∷ us) r.are }

opening_first : (b : Bracket) (ts : List Token) (i l : ℕ) → ParsesStage i (in_brackets l (b ∷ [])) ts → ParsesStage i (at_annotations l) (mark (opening b) ∷ ts)
opening_first b ts i l r = record {
  left = ((group b r.left.0.0 r.left.1.0.0, (r.left.0.1, r.left.1.0.1)), r.left.1.1);
  are = joins (mark (opening b)) (annotations_places r.left.0.0) (only (closing b) ∷ annotations_places r.left.1.0.0) (brackets_left i [] r.left.1.1) ∙ ap (λ us. mark (opening b) ∷ us) r.are;
}

from_annotations : (t : Token) (ts : List Token) (e : ParserState) → ParsesTo e ts → (i l : ℕ) → run_from (annotation_step (stage_state i (at_annotations l)) t) ts ≡ Some e → ParsesStage i (at_annotations l) (t ∷ ts)
from_annotations (mark OpenParenthesis) ts e ih i l h = opening_first parentheses ts i l (ih i (in_brackets l (parentheses ∷ [])) h)
from_annotations (mark OpenBracket) ts e ih i l h = opening_first brackets ts i l (ih i (in_brackets l (brackets ∷ [])) h)
from_annotations (mark OpenBrace) ts e ih i l h = opening_first braces ts i l (ih i (in_brackets l (braces ∷ [])) h)
from_annotations (mark CloseParenthesis) ts e ih i l h = dead ts e h
from_annotations (mark CloseBracket) ts e ih i l h = dead ts e h
from_annotations (mark CloseBrace) ts e ih i l h = dead ts e h
from_annotations (mark FullStop) ts e ih i l h = dead ts e h
from_annotations t ts e ih i l h = plain_first t ts i l refl (ih i (in_brackets l []) h)

from_stop : (t : Token) (ts : List Token) (e : ParserState) → ParsesTo e ts → (i l : ℕ) → run_from (stop_step (stage_state i (at_stop l)) t) ts ≡ Some e → ParsesStage i (at_stop l) (t ∷ ts)
from_stop (mark FullStop) ts e ih i l h = let r = ih (suc i) between_items h in record { left = r.left; are = ap (λ us. mark FullStop ∷ us) r.are }
from_stop t ts e ih i l h = dead ts e h

reads_more : (t : Token) (ts : List Token) (e : ParserState) → e.expected ≡ expect.Item → ParsesTo e ts → ParsesTo e (t ∷ ts)
reads_more t ts e ended ih i between_items h = from_item t ts e ih i h
reads_more t ts e ended ih i after_cnf h = from_opening t ts e ih i h
reads_more t ts e ended ih i at_name h = from_name t ts e ih i h
reads_more t ts e ended ih i after_name h = from_name_end t ts e ih i h
reads_more t ts e ended ih i at_role h = from_role t ts e ih i h
reads_more t ts e ended ih i after_role h = from_role_end t ts e ih i h
reads_more t ts e ended ih i (at_formula a) h = from_formula t ts e ended ih i a h
reads_more t ts e ended ih i (at_literal a l) h = from_literal t ts e ended ih expect.Literal i a l h
reads_more t ts e ended ih i (at_atom a l) h = from_atom t ts e ended ih an_atom expect.Atom i a l h
reads_more t ts e ended ih i (after_predicate a l) h = from_predicate_end t ts e ih i a l h
reads_more t ts e ended ih i (after_literal a l) h = from_literal_end t ts e ih expect.LiteralEnd i a l h
reads_more t ts e ended ih i (at_term a l n counts) h = from_term t ts e ih i a l n counts h
reads_more t ts e ended ih i (after_function a l n counts) h = from_function_end t ts e ih i a l n counts h
reads_more t ts e ended ih i (after_term a l n counts) h = from_term_end t ts e ih expect.TermEnd i a l n counts h
reads_more t ts e ended ih i (after_formula a l) h = from_formula_end t ts e ih expect.FormulaEnd i a l h
reads_more t ts e ended ih i (at_annotations l) h = from_annotations t ts e ih i l h
reads_more t ts e ended ih i (in_brackets l bs) h = from_brackets t ts e ih i l bs h
reads_more t ts e ended ih i (at_stop l) h = from_stop t ts e ih i l h

ends : (e : ParserState) → e.expected ≡ expect.Item → (i : ℕ) (g : Stage) → stage_state i g ≡ e → ParsesStage i g []
ends e ended i between_items is = record { left = ([], tt); are = refl }
ends e ended i g is = let clash : (stage_state i g).expected ≡ expect.Item = ap (λ s. s.expected) is ∙ ended in cc

reads : (ts : List Token) (e : ParserState) → e.expected ≡ expect.Item → ParsesTo e ts
reads [] e ended i g h = ends e ended i g (same_Some (stage_state i g) e h)
reads (t ∷ ts) e ended i g h = reads_more t ts e ended (reads ts e ended) i g h

-- tokens that lead from the start to the end of an item are those of whole items
pub run_reads : (ts : List Token) (e : ParserState) → run_from (Some start) ts ≡ Some e → e.expected ≡ expect.Item → AreWhole ts
run_reads ts e h ended = let r = reads ts e ended 0 between_items h in record { items = r.left.0; are = r.left.1; file = r.are }
