-- The states that the step machine comes to, and how each of them goes on to the end of an item.
use Rattle.std.proofs.Common.{◌≡◌, ℕ, zero, suc, ◌⊎◌, inl, inr, Bool, if◌then◌else◌, List, [], ◌∷◌, Some, None, codes, refl, sym, ◌∙◌, ap}
use Rattle.std.specs.List.{list_all}
use Rattle.std.specs.Char.{is_ascii_digit}
use Rattle.std.specs.Str.{bytes_eq}
use Rattle.std.proofs.lemmas.Option.{same_Some, cond_some}
use Rattle.pm_scan.specs.declared.token.Mark.TheVariants.{OpenParenthesis, CloseParenthesis, OpenBracket, CloseBracket, OpenBrace, CloseBrace, Comma, FullStop, Bar, Tilde}
use Rattle.pm_cnf.specs.declared.parser.Expected.{Expected}
use Rattle.pm_cnf.specs.declared.parser.Expected.TheVariants as expect
use Rattle.pm_scan.specs.Lexemes.{Token, lower, upper, number, quoted, dollar, mark}
use Rattle.pm_cnf.specs.Grammar.{Bracket, parentheses, brackets, braces}
use Rattle.pm_cnf.specs.Inside.Machine.{ParserState, step, run_from, item_step, name_step, role_step, is_constant, atom_step, literal_step, formula_step, formula_end_step, literal_end_step, predicate_end_step, term_step, term_end_step, function_end_step, annotation_step, annotations_end_step, stop_step}
use Rattle.pm_cnf.proofs.grammar.Forward.{in_formula, in_item, in_annotations}

-- What is expected, by what is told apart there: the parentheses around the formula, the literals begun, and
-- the open lists of arguments or the open brackets. A variable in the place of an atom is none of these.
pub data Stage : Type 0 where
  between_items : Stage
  after_cnf : Stage
  at_name : Stage
  after_name : Stage
  at_role : Stage
  after_role : Stage
  at_formula : ℕ → Stage
  at_literal : ℕ → ℕ → Stage
  at_atom : ℕ → ℕ → Stage
  after_predicate : ℕ → ℕ → Stage
  after_literal : ℕ → ℕ → Stage
  at_term : ℕ → ℕ → ℕ → List ℕ → Stage
  after_function : ℕ → ℕ → ℕ → List ℕ → Stage
  after_term : ℕ → ℕ → ℕ → List ℕ → Stage
  after_formula : ℕ → ℕ → Stage
  at_annotations : ℕ → Stage
  in_brackets : ℕ → List Bracket → Stage
  at_stop : ℕ → Stage

abbrev pub stage_state : ℕ → Stage → ParserState
stage_state i between_items = in_item expect.Item i
stage_state i after_cnf = in_item expect.Opening i
stage_state i at_name = in_item expect.Name i
stage_state i after_name = in_item expect.NameEnd i
stage_state i at_role = in_item expect.Role i
stage_state i after_role = in_item expect.RoleEnd i
stage_state i (at_formula a) = in_formula expect.Formula i a 0 []
stage_state i (at_literal a l) = in_formula expect.Literal i a l []
stage_state i (at_atom a l) = in_formula expect.Atom i a l []
stage_state i (after_predicate a l) = in_formula expect.PredicateEnd i a l []
stage_state i (after_literal a l) = in_formula expect.LiteralEnd i a l []
stage_state i (at_term a l n counts) = in_formula expect.Term i a l (n ∷ counts)
stage_state i (after_function a l n counts) = in_formula expect.FunctionEnd i a l (n ∷ counts)
stage_state i (after_term a l n counts) = in_formula expect.TermEnd i a l (n ∷ counts)
stage_state i (after_formula a l) = in_formula expect.FormulaEnd i a l []
stage_state i (at_annotations l) = in_annotations expect.Annotations i l []
stage_state i (in_brackets l bs) = in_annotations expect.AnnotationsEnd i l bs
stage_state i (at_stop l) = in_annotations expect.FullStop i l []

pub record Staged (s : ParserState) : Type 0 where
  pub items : ℕ
  pub stage : Stage
  pub is : s ≡ stage_state items stage

-- a literal, or an atom after a ~, begins here
abbrev pub IsAtomStage : Stage → Type 0
IsAtomStage (at_formula a) = Unit {0}
IsAtomStage (at_literal a l) = Unit {0}
IsAtomStage (at_atom a l) = Unit {0}
IsAtomStage g = ⊥

-- the token is an upper word in the place of an atom
pub record AtVariable (g : Stage) (t : Token) (s : ParserState) : Type 0 where
  pub text : List ℕ
  pub upper_word : t ≡ upper text
  pub atom : IsAtomStage g
  pub expected : s.expected ≡ expect.VariableEnd

pub none_is : {A B : Type 0} (x : A) → None ≡ Some x → B
none_is x is = cc

staged : (i : ℕ) (g : Stage) (s : ParserState) → Some (stage_state i g) ≡ Some s → Staged s
staged i g s is = record { items = i; stage = g; is = sym (same_Some (stage_state i g) s is) }

staged_if : (i : ℕ) (g : Stage) (b : Bool) (s : ParserState) → (if b then Some (stage_state i g) else None) ≡ Some s → Staged s
staged_if i g b s is = record { items = i; stage = g; is = sym (cond_some b (stage_state i g) s is).1 }

item_staged : (t : Token) (i : ℕ) (s : ParserState) → item_step (stage_state i between_items) t ≡ Some s → Staged s
item_staged (lower text) i s h = staged_if i after_cnf (bytes_eq text (codes "cnf")) s h
item_staged t i s h = none_is s h

opening_staged : (t : Token) (i : ℕ) (s : ParserState) → step (stage_state i after_cnf) t ≡ Some s → Staged s
opening_staged (mark OpenParenthesis) i s h = staged i at_name s h
opening_staged t i s h = none_is s h

name_staged : (t : Token) (i : ℕ) (s : ParserState) → name_step (stage_state i at_name) t ≡ Some s → Staged s
name_staged (lower text) i s h = staged i after_name s h
name_staged (quoted text) i s h = staged i after_name s h
name_staged (number text) i s h = staged_if i after_name (list_all is_ascii_digit text) s h
name_staged t i s h = none_is s h

name_end_staged : (t : Token) (i : ℕ) (s : ParserState) → step (stage_state i after_name) t ≡ Some s → Staged s
name_end_staged (mark Comma) i s h = staged i at_role s h
name_end_staged t i s h = none_is s h

role_staged : (t : Token) (i : ℕ) (s : ParserState) → role_step (stage_state i at_role) t ≡ Some s → Staged s
role_staged (lower text) i s h = staged i after_role s h
role_staged t i s h = none_is s h

role_end_staged : (t : Token) (i : ℕ) (s : ParserState) → step (stage_state i after_role) t ≡ Some s → Staged s
role_end_staged (mark Comma) i s h = staged i (at_formula 0) s h
role_end_staged t i s h = none_is s h

at_variable : (g : Stage) (text : List ℕ) (x s : ParserState) → IsAtomStage g → x.expected ≡ expect.VariableEnd → Some x ≡ Some s → AtVariable g (upper text) s
at_variable g text x s atom expected is = record { text = text; upper_word = refl; atom = atom; expected = ap (λ y. y.expected) (sym (same_Some x s is)) ∙ expected }

atom_staged : (t : Token) (x : Expected) (g : Stage) (i a l : ℕ) (s : ParserState) → IsAtomStage g → atom_step (in_formula x i a l []) t ≡ Some s → Staged s ⊎ AtVariable g t s
atom_staged (lower text) x g i a l s atom h = inl (staged i (after_predicate a l) s h)
atom_staged (quoted text) x g i a l s atom h = inl (staged i (after_predicate a l) s h)
atom_staged (upper text) x g i a l s atom h = inr (at_variable g text (in_formula expect.VariableEnd i a l []) s atom refl h)
atom_staged (dollar text) x g i a l s atom h = inl (staged_if i (after_literal a l) (is_constant text) s h)
atom_staged t x g i a l s atom h = none_is s h

literal_staged : (t : Token) (x : Expected) (g : Stage) (i a l : ℕ) (s : ParserState) → IsAtomStage g → literal_step (in_formula x i a l []) t ≡ Some s → Staged s ⊎ AtVariable g t s
literal_staged (mark Tilde) x g i a l s atom h = inl (staged i (at_atom a (suc l)) s h)
literal_staged t x g i a l s atom h = atom_staged t x g i a (suc l) s atom h

formula_staged : (t : Token) (i a : ℕ) (s : ParserState) → formula_step (stage_state i (at_formula a)) t ≡ Some s → Staged s ⊎ AtVariable (at_formula a) t s
formula_staged (mark OpenParenthesis) i a s h = inl (staged i (at_formula (suc a)) s h)
formula_staged t i a s h = literal_staged t expect.Formula (at_formula a) i a 0 s tt h

formula_end_staged : (t : Token) (x : Expected) (i a l : ℕ) (s : ParserState) → formula_end_step (in_formula x i a l []) t ≡ Some s → Staged s
formula_end_staged (mark CloseParenthesis) x i zero l s h = staged i (at_stop l) s h
formula_end_staged (mark CloseParenthesis) x i (suc a) l s h = staged i (after_formula a l) s h
formula_end_staged (mark Comma) x i zero l s h = staged i (at_annotations l) s h
formula_end_staged (mark Comma) x i (suc a) l s h = none_is s h
formula_end_staged t x i a l s h = none_is s h

literal_end_staged : (t : Token) (x : Expected) (i a l : ℕ) (s : ParserState) → literal_end_step (in_formula x i a l []) t ≡ Some s → Staged s
literal_end_staged (mark Bar) x i a l s h = staged i (at_literal a l) s h
literal_end_staged t x i a l s h = formula_end_staged t x i a l s h

predicate_end_staged : (t : Token) (x : Expected) (i a l : ℕ) (s : ParserState) → predicate_end_step (in_formula x i a l []) t ≡ Some s → Staged s
predicate_end_staged (mark OpenParenthesis) x i a l s h = staged i (at_term a l 0 []) s h
predicate_end_staged t x i a l s h = literal_end_staged t x i a l s h

term_staged : (t : Token) (i a l n : ℕ) (counts : List ℕ) (s : ParserState) → term_step (stage_state i (at_term a l n counts)) t ≡ Some s → Staged s
term_staged (lower text) i a l n counts s h = staged i (after_function a l (suc n) counts) s h
term_staged (quoted text) i a l n counts s h = staged i (after_function a l (suc n) counts) s h
term_staged (upper text) i a l n counts s h = staged i (after_term a l (suc n) counts) s h
term_staged t i a l n counts s h = none_is s h

term_end_staged : (t : Token) (x : Expected) (i a l n : ℕ) (counts : List ℕ) (s : ParserState) → term_end_step (in_formula x i a l (n ∷ counts)) t ≡ Some s → Staged s
term_end_staged (mark Comma) x i a l n counts s h = staged i (at_term a l n counts) s h
term_end_staged (mark CloseParenthesis) x i a l n [] s h = staged i (after_literal a l) s h
term_end_staged (mark CloseParenthesis) x i a l n (m ∷ counts) s h = staged i (after_term a l m counts) s h
term_end_staged t x i a l n counts s h = none_is s h

function_end_staged : (t : Token) (x : Expected) (i a l n : ℕ) (counts : List ℕ) (s : ParserState) → function_end_step (in_formula x i a l (n ∷ counts)) t ≡ Some s → Staged s
function_end_staged (mark OpenParenthesis) x i a l n counts s h = staged i (at_term a l 0 (n ∷ counts)) s h
function_end_staged t x i a l n counts s h = term_end_staged t x i a l n counts s h

annotation_staged : (t : Token) (x : Expected) (i l : ℕ) (bs : List Bracket) (s : ParserState) → annotation_step (in_annotations x i l bs) t ≡ Some s → Staged s
annotation_staged (mark OpenParenthesis) x i l bs s h = staged i (in_brackets l (parentheses ∷ bs)) s h
annotation_staged (mark OpenBracket) x i l bs s h = staged i (in_brackets l (brackets ∷ bs)) s h
annotation_staged (mark OpenBrace) x i l bs s h = staged i (in_brackets l (braces ∷ bs)) s h
annotation_staged (mark CloseParenthesis) x i l [] s h = none_is s h
annotation_staged (mark CloseParenthesis) x i l (b ∷ bs) s h = staged_if i (in_brackets l bs) _ s h
annotation_staged (mark CloseBracket) x i l [] s h = none_is s h
annotation_staged (mark CloseBracket) x i l (b ∷ bs) s h = staged_if i (in_brackets l bs) _ s h
annotation_staged (mark CloseBrace) x i l [] s h = none_is s h
annotation_staged (mark CloseBrace) x i l (b ∷ bs) s h = staged_if i (in_brackets l bs) _ s h
annotation_staged (mark FullStop) x i l bs s h = none_is s h
annotation_staged t x i l bs s h = staged i (in_brackets l bs) s h

annotations_end_staged : (t : Token) (x : Expected) (i l : ℕ) (bs : List Bracket) (s : ParserState) → annotations_end_step (in_annotations x i l bs) t ≡ Some s → Staged s
annotations_end_staged (mark CloseParenthesis) x i l [] s h = staged i (at_stop l) s h
annotations_end_staged (mark CloseParenthesis) x i l (b ∷ bs) s h = staged_if i (in_brackets l bs) _ s h
annotations_end_staged t x i l bs s h = annotation_staged t x i l bs s h

stop_staged : (t : Token) (i l : ℕ) (s : ParserState) → stop_step (stage_state i (at_stop l)) t ≡ Some s → Staged s
stop_staged (mark FullStop) i l s h = staged (suc i) between_items s h
stop_staged t i l s h = none_is s h

-- a step leads to a stage, or past an upper word in the place of an atom
pub step_staged : (t : Token) (i : ℕ) (g : Stage) (s : ParserState) → step (stage_state i g) t ≡ Some s → Staged s ⊎ AtVariable g t s
step_staged t i between_items s h = inl (item_staged t i s h)
step_staged t i after_cnf s h = inl (opening_staged t i s h)
step_staged t i at_name s h = inl (name_staged t i s h)
step_staged t i after_name s h = inl (name_end_staged t i s h)
step_staged t i at_role s h = inl (role_staged t i s h)
step_staged t i after_role s h = inl (role_end_staged t i s h)
step_staged t i (at_formula a) s h = formula_staged t i a s h
step_staged t i (at_literal a l) s h = literal_staged t expect.Literal (at_literal a l) i a l s tt h
step_staged t i (at_atom a l) s h = atom_staged t expect.Atom (at_atom a l) i a l s tt h
step_staged t i (after_predicate a l) s h = inl (predicate_end_staged t expect.PredicateEnd i a l s h)
step_staged t i (after_literal a l) s h = inl (literal_end_staged t expect.LiteralEnd i a l s h)
step_staged t i (at_term a l n counts) s h = inl (term_staged t i a l n counts s h)
step_staged t i (after_function a l n counts) s h = inl (function_end_staged t expect.FunctionEnd i a l n counts s h)
step_staged t i (after_term a l n counts) s h = inl (term_end_staged t expect.TermEnd i a l n counts s h)
step_staged t i (after_formula a l) s h = inl (formula_end_staged t expect.FormulaEnd i a l s h)
step_staged t i (at_annotations l) s h = inl (annotation_staged t expect.Annotations i l [] s h)
step_staged t i (in_brackets l bs) s h = inl (annotations_end_staged t expect.AnnotationsEnd i l bs s h)
step_staged t i (at_stop l) s h = inl (stop_staged t i l s h)

-- some tokens lead on to the end of an item
pub record Completed (s : ParserState) : Type 0 where
  pub more : List Token
  pub last : ParserState
  pub runs : run_from (Some s) more ≡ Some last
  pub ended : last.expected ≡ expect.Item

-- one token, and what completes from then on
completed_by : (t : Token) (s next : ParserState) → step s t ≡ Some next → Completed next → Completed s
completed_by t s next is c = record { more = t ∷ c.more; last = c.last; runs = ap (λ x. run_from x c.more) is ∙ c.runs; ended = c.ended }

item_completed : (i : ℕ) → Completed (stage_state i between_items)
item_completed i = record { more = []; last = stage_state i between_items; runs = refl; ended = refl }

stop_completed : (i l : ℕ) → Completed (stage_state i (at_stop l))
stop_completed i l = completed_by (mark FullStop) _ _ refl (item_completed (suc i))

formula_completed : (i a l : ℕ) → Completed (stage_state i (after_formula a l))
formula_completed i zero l = completed_by (mark CloseParenthesis) _ (stage_state i (at_stop l)) refl (stop_completed i l)
formula_completed i (suc a) l = completed_by (mark CloseParenthesis) _ (stage_state i (after_formula a l)) refl (formula_completed i a l)

literal_completed : (i a l : ℕ) → Completed (stage_state i (after_literal a l))
literal_completed i zero l = completed_by (mark CloseParenthesis) _ (stage_state i (at_stop l)) refl (stop_completed i l)
literal_completed i (suc a) l = completed_by (mark CloseParenthesis) _ (stage_state i (after_formula a l)) refl (formula_completed i a l)

predicate_completed : (i a l : ℕ) → Completed (stage_state i (after_predicate a l))
predicate_completed i zero l = completed_by (mark CloseParenthesis) _ (stage_state i (at_stop l)) refl (stop_completed i l)
predicate_completed i (suc a) l = completed_by (mark CloseParenthesis) _ (stage_state i (after_formula a l)) refl (formula_completed i a l)

term_completed : (i a l n : ℕ) (counts : List ℕ) → Completed (stage_state i (after_term a l n counts))
term_completed i a l n [] = completed_by (mark CloseParenthesis) _ (stage_state i (after_literal a l)) refl (literal_completed i a l)
term_completed i a l n (m ∷ counts) = completed_by (mark CloseParenthesis) _ (stage_state i (after_term a l m counts)) refl (term_completed i a l m counts)

function_completed : (i a l n : ℕ) (counts : List ℕ) → Completed (stage_state i (after_function a l n counts))
function_completed i a l n [] = completed_by (mark CloseParenthesis) _ (stage_state i (after_literal a l)) refl (literal_completed i a l)
function_completed i a l n (m ∷ counts) = completed_by (mark CloseParenthesis) _ (stage_state i (after_term a l m counts)) refl (term_completed i a l m counts)

brackets_completed : (i l : ℕ) (bs : List Bracket) → Completed (stage_state i (in_brackets l bs))
brackets_completed i l [] = completed_by (mark CloseParenthesis) _ (stage_state i (at_stop l)) refl (stop_completed i l)
brackets_completed i l (parentheses ∷ bs) = completed_by (mark CloseParenthesis) _ (stage_state i (in_brackets l bs)) refl (brackets_completed i l bs)
brackets_completed i l (brackets ∷ bs) = completed_by (mark CloseBracket) _ (stage_state i (in_brackets l bs)) refl (brackets_completed i l bs)
brackets_completed i l (braces ∷ bs) = completed_by (mark CloseBrace) _ (stage_state i (in_brackets l bs)) refl (brackets_completed i l bs)

at_formula_completed : (i a : ℕ) → Completed (stage_state i (at_formula a))
at_formula_completed i a = completed_by (lower []) _ (stage_state i (after_predicate a 1)) refl (predicate_completed i a 1)

at_role_completed : (i : ℕ) → Completed (stage_state i at_role)
at_role_completed i = completed_by (lower []) _ (stage_state i after_role) refl (completed_by (mark Comma) _ (stage_state i (at_formula 0)) refl (at_formula_completed i 0))

at_name_completed : (i : ℕ) → Completed (stage_state i at_name)
at_name_completed i = completed_by (lower []) _ (stage_state i after_name) refl (completed_by (mark Comma) _ (stage_state i at_role) refl (at_role_completed i))

-- each stage goes on to the end of an item
pub stage_completed : (i : ℕ) (g : Stage) → Completed (stage_state i g)
stage_completed i between_items = item_completed i
stage_completed i after_cnf = completed_by (mark OpenParenthesis) _ (stage_state i at_name) refl (at_name_completed i)
stage_completed i at_name = at_name_completed i
stage_completed i after_name = completed_by (mark Comma) _ (stage_state i at_role) refl (at_role_completed i)
stage_completed i at_role = at_role_completed i
stage_completed i after_role = completed_by (mark Comma) _ (stage_state i (at_formula 0)) refl (at_formula_completed i 0)
stage_completed i (at_formula a) = at_formula_completed i a
stage_completed i (at_literal a l) = completed_by (lower []) _ (stage_state i (after_predicate a (suc l))) refl (predicate_completed i a (suc l))
stage_completed i (at_atom a l) = completed_by (lower []) _ (stage_state i (after_predicate a l)) refl (predicate_completed i a l)
stage_completed i (after_predicate a l) = predicate_completed i a l
stage_completed i (after_literal a l) = literal_completed i a l
stage_completed i (at_term a l n counts) = completed_by (lower []) _ (stage_state i (after_function a l (suc n) counts)) refl (function_completed i a l (suc n) counts)
stage_completed i (after_function a l n counts) = function_completed i a l n counts
stage_completed i (after_term a l n counts) = term_completed i a l n counts
stage_completed i (after_formula a l) = formula_completed i a l
stage_completed i (at_annotations l) = completed_by (lower []) _ (stage_state i (in_brackets l [])) refl (brackets_completed i l [])
stage_completed i (in_brackets l bs) = brackets_completed i l bs
stage_completed i (at_stop l) = stop_completed i l
