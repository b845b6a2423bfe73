-- The problems of the tests are valid.
use Rattle.std.proofs.Common.{◌≡◌, ℕ, zero, suc, ◌<◌, ◌≤◌, inl, inr, List, [], ◌∷◌, ◌++◌, length, map, get_or, Result, Ok, Err, refl, sym, ◌∙◌, ap, subst, arith, lit<, lit≤}
use Rattle.std.specs.Prelude.{All, Contains, IfOk, OnOk}
use Rattle.std.proofs.lemmas.List.{length-map}
use Rattle.std.proofs.lemmas.List.Elements.{All-nil, All-cons, All-map, All-push, All-weaker, All-head, All-tail}
use Rattle.pm_logic.specs.declared.problem.Literal.{Literal}
use Rattle.pm_logic.specs.declared.problem.Clause.{Clause}
use Rattle.pm_logic.specs.declared.symbols.Kind.TheVariants.{Predicate, Function, Equality}
use Rattle.pm_logic.specs.Table.{Adds}
use Rattle.pm_logic.specs.Term.{Term, var, app, as_terms, list_of, tree_at}
use Rattle.pm_logic.specs.Problem.{Symbol, Numbers, HasShape, IsTermOver, AreTermsOver, IsLiteralOver, IsClauseOver, IsPrintable, IsEquality, IsValid}
use Rattle.pm_logic.specs.View.{HasRows, literal_of, clause_of}
use Rattle.pm_contra.specs.Inside.Example.{symbol_p, symbol_a, symbol_f, example_symbols, IsExampleLiteral, IsExampleClause}

-- a symbol that isn't there becomes the last
numbers_last : (old new : List Symbol) (s : Symbol) (n : ℕ) → Numbers old new s n → (Contains old s → ⊥) → new ≡ old ++ s ∷ []
numbers_last old new s n h absent =
    elim h.grows [
      | inl known ↦ absurd (absent known.1)
      | inr added ↦ added.0
    ]

absent_a : (k : ℕ) → k < 1 → get_or (symbol_p ∷ []) k symbol_a ≡ symbol_a → ⊥
absent_a zero lt same = let bytes : 112 ≡ 97 = ap (λ (s : Symbol). get_or s.text 0 0) same in omega (arith, bytes)
absent_a (suc k) lt same = omega arith

absent_f : (k : ℕ) → k < 2 → get_or (symbol_p ∷ symbol_a ∷ []) k symbol_f ≡ symbol_f → ⊥
absent_f zero lt same = let bytes : 112 ≡ 102 = ap (λ (s : Symbol). get_or s.text 0 0) same in omega (arith, bytes)
absent_f (suc zero) lt same = let bytes : 97 ≡ 102 = ap (λ (s : Symbol). get_or s.text 0 0) same in omega (arith, bytes)
absent_f (suc (suc k)) lt same = omega arith

-- the three symbols, one after another
pub three_numbers : (none one two three : List Symbol) (k m n : ℕ) → none ≡ [] → Numbers none one symbol_p k → Numbers one two symbol_a m
    → Numbers two three symbol_f n → three ≡ example_symbols
three_numbers none one two three k m n empty p a f =
    let first : one ≡ symbol_p ∷ [] =
    numbers_last none one symbol_p k p (λ h. let place : h.0 < length none = h.1 in omega (arith, place, ap length empty)) ∙ ap (λ (l : List Symbol). l ++ symbol_p ∷ []) empty in
    let second : two ≡ symbol_p ∷ symbol_a ∷ [] =
    numbers_last one two symbol_a m a (λ h. let there = subst (λ (l : List Symbol). Contains l symbol_a) first h in absent_a there.0 there.1 there.2)
    ∙ ap (λ (l : List Symbol). l ++ symbol_a ∷ []) first in
    numbers_last two three symbol_f n f (λ h. let there = subst (λ (l : List Symbol). Contains l symbol_f) second h in absent_f there.0 there.1 there.2)
    ∙ ap (λ (l : List Symbol). l ++ symbol_f ∷ []) second

-- a term that is added to terms over the symbols
abbrev pub IsOver : Term → Type 0
IsOver = IsTermOver example_symbols 1

pub over_added : (old new : List Term) (t : Term) (row : ℕ) → Adds old new t row → IsOver t → All IsOver old → All IsOver new
over_added old new t row h over each =
    elim h.grows [
      | inl known ↦ subst (All IsOver) (sym known.0) each
      | inr added ↦ subst (All IsOver) (sym added.0) (All-push IsOver old t each over)
    ]

length-as_terms : (ts : List Term) → length (list_of (as_terms ts)) ≡ length ts
length-as_terms [] = refl
length-as_terms (t ∷ ts) = ap suc (length-as_terms ts)

over_args : (old : List Term) (args : List ℕ) → All IsOver old → All (λ arg. arg < length old) args
    → AreTermsOver example_symbols 1 (as_terms (map (tree_at old) args))
over_args old [] each within = tt
over_args old (a ∷ args) each within =
    let P : ℕ → Type 0 = λ arg. arg < length old in
    (each a (var 0) (All-head P a args within), over_args old args each (All-tail P a args within))

pub over_app : (old : List Term) (f : ℕ) (args : List ℕ) → HasShape example_symbols f Function (length args) → All (λ arg. arg < length old) args
    → All IsOver old → IsOver (app f (as_terms (map (tree_at old) args)))
over_app old f args shape within each =
    (subst (HasShape example_symbols f Function) (sym (length-as_terms (map (tree_at old) args) ∙ length-map args (tree_at old))) shape, over_args old args each within)

-- a literal and a clause
literal_over : (terms : List Term) → All IsOver terms → (l : Literal) → IsExampleLiteral (length terms) l → IsLiteralOver example_symbols 1 (literal_of terms l)
literal_over terms each l h = record {
  predicate =
      let P : ℕ → ℕ → Type 0 = λ number arity. HasShape example_symbols number Predicate arity in
      inl (subst (λ number. P number (length (map (tree_at terms) l.args.items))) (sym h.of_p)
      (subst (P 0) (sym (length-map l.args.items (tree_at terms) ∙ h.one)) (refl, refl)));
  args = All-map IsOver (tree_at terms) l.args.items (λ k d lt. each (get_or l.args.items k d) (var 0) (h.rows k d lt));
}

clause_over : (terms : List Term) → All IsOver terms → (c : Clause) → IsExampleClause (length terms) c → IsClauseOver example_symbols (clause_of terms c)
clause_over terms each c h = record {
  few = omega (arith, h.few, length-map c.literals.items (literal_of terms));
  literals = subst (λ vars. All (IsLiteralOver example_symbols vars) (map (literal_of terms) c.literals.items)) (sym h.one_variable)
      (All-map (IsLiteralOver example_symbols 1) (literal_of terms) c.literals.items
      (All-weaker (IsExampleLiteral (length terms)) (λ (l : Literal). IsLiteralOver example_symbols 1 (literal_of terms l)) (literal_over terms each) c.literals.items h.each));
}

byte_printable : (b : ℕ) → 32 ≤ b → b ≤ 126 → IsPrintable (b ∷ [])
byte_printable b low high = (lit< tt, All-cons (λ b. (32 ≤ b) × (b ≤ 126)) b [] (low, high) (All-nil (λ b. (32 ≤ b) × (b ≤ 126))))

pub rows_of_examples : (count : ℕ) (clauses : List Clause) → All (IsExampleClause count) clauses → All (λ c. All (HasRows count) c.literals.items) clauses
rows_of_examples count clauses each =
    All-weaker (IsExampleClause count) (λ (c : Clause). All (HasRows count) c.literals.items)
    (λ c h. All-weaker (IsExampleLiteral count) (HasRows count) (λ l k. k.rows) c.literals.items h.each) clauses each

pub valid_examples : (symbols : List Symbol) (terms : List Term) (clauses : List Clause) → symbols ≡ example_symbols → All IsOver terms
    → length clauses ≤ 65536 → All (IsExampleClause (length terms)) clauses
    → IsValid (record { symbols = symbols; terms = terms; clauses = map (clause_of terms) clauses })
valid_examples symbols terms clauses are over few each =
    let P : Symbol → Type 0 = λ s. IsPrintable s.text in
    let Q : Symbol → Type 0 = λ s. s.kind ≡ Equality → IsEquality s in
    record {
      few = omega (arith, few, length-map clauses (clause_of terms));
      texts = subst (All P) (sym are) (All-cons P symbol_p (symbol_a ∷ symbol_f ∷ []) (byte_printable 112 (lit≤ tt) (lit≤ tt))
          (All-cons P symbol_a (symbol_f ∷ []) (byte_printable 97 (lit≤ tt) (lit≤ tt)) (All-cons P symbol_f [] (byte_printable 102 (lit≤ tt) (lit≤ tt)) (All-nil P))));
      equality = subst (All Q) (sym are) (All-cons Q symbol_p (symbol_a ∷ symbol_f ∷ []) (λ same. absurd cc)
          (All-cons Q symbol_a (symbol_f ∷ []) (λ same. absurd cc) (All-cons Q symbol_f [] (λ same. absurd cc) (All-nil Q))));
      clauses = subst (λ (ss : List Symbol). All (IsClauseOver ss) (map (clause_of terms) clauses)) (sym are)
          (All-map (IsClauseOver example_symbols) (clause_of terms) clauses
          (All-weaker (IsExampleClause (length terms)) (λ (c : Clause). IsClauseOver example_symbols (clause_of terms c)) (clause_over terms over) clauses each));
    }

-- what an addition leaves, if it succeeds
pub over_result : {E : Type 0} (old new : List Term) (f : ℕ) (args : List ℕ) (result : Result ℕ E) → HasShape example_symbols f Function (length args)
    → All (λ arg. arg < length old) args → All IsOver old
    → IfOk result (Adds old new (app f (as_terms (map (tree_at old) args)))) → OnOk result (All IsOver new)
over_result old new f args (Ok row) shape within each h =
    over_added old new (app f (as_terms (map (tree_at old) args))) row h (over_app old f args shape within each) each
over_result old new f args (Err e) shape within each h = tt

-- one more literal
pub literals_more : (count : ℕ) (all now : List Literal) (l : Literal) (row : ℕ) → All (IsExampleLiteral count) all → now ≡ all ++ l ∷ []
    → l.predicate ≡ 0 → l.args.items ≡ row ∷ [] → row < count → All (IsExampleLiteral count) now
literals_more count all now l row each now-is of_p args-is lt =
    let P : ℕ → Type 0 = λ n. n < count in
    subst (All (IsExampleLiteral count)) (sym now-is) (All-push (IsExampleLiteral count) all l each (record {
      of_p = of_p;
      one = ap length args-is;
      rows = subst (All P) (sym args-is) (All-cons P row [] lt (All-nil P));
    }))
