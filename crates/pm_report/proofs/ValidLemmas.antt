-- The sample is a valid problem.
use Rattle.std.proofs.Common.{◌≡◌, ◌∙◌, ◌+◌, ◌%◌, ◌^◌, ◌<◌, ◌≤◌, ℕ, zero, suc, Bool, true, false, List, [], ◌∷◌, length, Option, Some, refl, sym, ap, subst, arith, inl, inr, decimal}
use Rattle.std.specs.List.{All}
use Rattle.std.specs.Prelude.{slice_get, IsSomeAnd}
use Rattle.std.proofs.lemmas.Bool.{cases_lt}
use Rattle.std.proofs.lemmas.Fmt.{decimal_by_steps}
use Rattle.std.proofs.lemmas.List.{length-append}
use Rattle.std.proofs.lemmas.List.Elements.{All-append, All-cons, All-nil}
use Rattle.pm_logic.specs.declared.symbols.Kind.TheVariants.{Predicate, Function, Equality}
use Rattle.pm_logic.specs.Problem.{Clause, HasShape, IsClauseOver, IsEquality, IsLiteralOver, IsPrintable, IsTermOver, IsValid, Literal, Symbol}
use Rattle.pm_logic.specs.Term.{Term, var}
use Rattle.pm_report.specs.Sample.{constant, constant_symbol, constant_symbols, edge, edge_clause, edge_clauses, edge_symbol, goal_clause, path, path_number, path_symbol, problem_over, same_clause, sample_clauses, sample_symbols, step_clause}
use Rattle.pm_report.proofs.SampleLemmas.{get_here, get_left, length_push, length-constant_symbols}

abbrev Printable : ℕ → Type 0
Printable b = (32 ≤ b) × (b ≤ 126)

decimal_printable : (n : ℕ) → n < 2 ^ 64 → All Printable (decimal n)
decimal_printable = decimal_by_steps (λ n ds. All Printable ds)
    (λ n small. All-cons Printable (48 + n) [] (omega arith, omega arith) (All-nil Printable))
    (λ n ds large h. All-append Printable ds ((48 + n % 10) ∷ []) h (All-cons Printable (48 + n % 10) [] (omega arith, omega arith) (All-nil Printable)))

constant_printable : (k : ℕ) → k < 2 ^ 64 → IsPrintable (constant_symbol k).text
constant_printable k small = (omega arith, All-cons Printable 99 (decimal k) (omega arith, omega arith) (decimal_printable k small))

constants_printable : (n : ℕ) → n < 2 ^ 64 → All (λ s. IsPrintable s.text) (constant_symbols n)
unfolding constant_symbols
constants_printable zero small = All-nil (λ s. IsPrintable s.text)
constants_printable (suc n) small =
    All-append (λ s. IsPrintable s.text) (constant_symbols n) (constant_symbol n ∷ []) (constants_printable n (omega arith))
    (All-cons (λ s. IsPrintable s.text) (constant_symbol n) [] (constant_printable n (omega arith)) (All-nil (λ s. IsPrintable s.text)))

letter_printable : (b : ℕ) → 32 ≤ b → b ≤ 126 → IsPrintable (b ∷ [])
letter_printable b low high = (omega arith, All-cons Printable b [] (low, high) (All-nil Printable))

texts_printable : (edges : ℕ) → edges ≤ 50000 → All (λ s. IsPrintable s.text) (sample_symbols edges)
texts_printable edges few =
    All-cons (λ s. IsPrintable s.text) edge_symbol _ (letter_printable 101 (omega arith) (omega arith))
    (All-append (λ s. IsPrintable s.text) (constant_symbols (edges + 1)) (path_symbol ∷ []) (constants_printable (edges + 1) (omega arith))
    (All-cons (λ s. IsPrintable s.text) path_symbol [] (letter_printable 114 (omega arith) (omega arith)) (All-nil (λ s. IsPrintable s.text))))

abbrev Equal : Symbol → Type 0
Equal s = s.kind ≡ Equality → IsEquality s

constants_unequal : (n : ℕ) → All Equal (constant_symbols n)
unfolding constant_symbols
constants_unequal zero = All-nil Equal
constants_unequal (suc n) = All-append Equal (constant_symbols n) (constant_symbol n ∷ []) (constants_unequal n) (All-cons Equal (constant_symbol n) [] (λ e. cc) (All-nil Equal))

none_equal : (edges : ℕ) → All Equal (sample_symbols edges)
none_equal edges = All-cons Equal edge_symbol _ (λ e. cc)
    (All-append Equal (constant_symbols (edges + 1)) (path_symbol ∷ []) (constants_unequal (edges + 1)) (All-cons Equal path_symbol [] (λ e. cc) (All-nil Equal)))

-- ---- shapes

constant_at : (n k : ℕ) → k < n → slice_get (constant_symbols n) k ≡ Some (constant_symbol k)
unfolding constant_symbols
constant_at zero k lt = absurd (omega arith)
constant_at (suc n) k lt = elim (cases_lt k n) [
  | inl before ↦ get_left (constant_symbols n) (constant_symbol n ∷ []) k (omega (arith, length-constant_symbols n)) ∙ constant_at n k before
  | inr past ↦ (let here : k ≡ n = omega arith in
      get_here (constant_symbols n) [] (constant_symbol n) k (omega (arith, length-constant_symbols n)) ∙ ap (λ (i : ℕ). Some (constant_symbol i)) (sym here))
]

shape : (symbols : List Symbol) (number : ℕ) (s : Symbol) → slice_get symbols number ≡ Some s → HasShape symbols number s.kind s.arity
shape symbols number s is = subst (λ (o : Option Symbol). IsSomeAnd o (λ t. (t.kind ≡ s.kind) × (t.arity ≡ s.arity))) (sym is) (refl, refl)

constant_shape : (edges k : ℕ) → k ≤ edges → HasShape (sample_symbols edges) (k + 1) Function 0
constant_shape edges k le =
    let place : suc k ≡ k + 1 = omega arith in
    let found : slice_get (sample_symbols edges) (suc k) ≡ Some (constant_symbol k) =
    get_left (constant_symbols (edges + 1)) (path_symbol ∷ []) k (omega (arith, length-constant_symbols (edges + 1))) ∙ constant_at (edges + 1) k (omega arith) in
    shape (sample_symbols edges) (k + 1) (constant_symbol k) (ap (slice_get (sample_symbols edges)) (sym place) ∙ found)

edge_shape : (edges : ℕ) → HasShape (sample_symbols edges) 0 Predicate 2
edge_shape edges = (refl, refl)

path_shape : (edges : ℕ) → HasShape (sample_symbols edges) (path_number edges) Predicate 2
path_shape edges =
    let place : suc (edges + 1) ≡ edges + 2 = omega arith in
    let found : slice_get (sample_symbols edges) (suc (edges + 1)) ≡ Some path_symbol =
    get_here (constant_symbols (edges + 1)) [] path_symbol (edges + 1) (sym (length-constant_symbols (edges + 1))) in
    shape (sample_symbols edges) (edges + 2) path_symbol (ap (slice_get (sample_symbols edges)) (sym place) ∙ found)

module _ (edges vars : ℕ) where
  constant_over : (k : ℕ) → k ≤ edges → IsTermOver (sample_symbols edges) vars (constant k)
  constant_over k le = (constant_shape edges k le, tt)

  args_over : (a b : Term) → IsTermOver (sample_symbols edges) vars a → IsTermOver (sample_symbols edges) vars b → All (IsTermOver (sample_symbols edges) vars) (a ∷ b ∷ [])
  args_over a b p q = All-cons (IsTermOver (sample_symbols edges) vars) a (b ∷ []) p (All-cons (IsTermOver (sample_symbols edges) vars) b [] q (All-nil (IsTermOver (sample_symbols edges) vars)))

  edge_over : (positive : Bool) (a b : Term) → IsTermOver (sample_symbols edges) vars a → IsTermOver (sample_symbols edges) vars b → IsLiteralOver (sample_symbols edges) vars (edge positive a b)
  edge_over positive a b p q = record { predicate = inl (edge_shape edges); args = args_over a b p q }

  path_over : (positive : Bool) (a b : Term) → IsTermOver (sample_symbols edges) vars a → IsTermOver (sample_symbols edges) vars b → IsLiteralOver (sample_symbols edges) vars (path edges positive a b)
  path_over positive a b p q = record { predicate = inl (path_shape edges); args = args_over a b p q }

module _ (edges : ℕ) where
  abbrev Over : Clause → Type 0
  Over clause = IsClauseOver (sample_symbols edges) clause

  abbrev LiteralOver : ℕ → Literal → Type 0
  LiteralOver vars l = IsLiteralOver (sample_symbols edges) vars l

  one_over : (i : ℕ) → i + 1 ≤ edges → Over (edge_clause i)
  one_over i le = record {
    few = omega arith;
    literals = All-cons (LiteralOver 0) _ [] (edge_over edges 0 true (constant i) (constant (i + 1)) (constant_over edges 0 i (omega arith)) (constant_over edges 0 (i + 1) le))
        (All-nil (LiteralOver 0));
  }

  edges_over : (n : ℕ) → n ≤ edges → All Over (edge_clauses n)
  unfolding edge_clauses
  edges_over zero le = All-nil Over
  edges_over (suc n) le = All-append Over (edge_clauses n) (edge_clause n ∷ []) (edges_over n (omega arith)) (All-cons Over (edge_clause n) [] (one_over n (omega arith)) (All-nil Over))

  same_over : Over (same_clause edges)
  same_over = record {
    few = omega arith;
    literals = All-cons (LiteralOver 1) _ [] (path_over edges 1 true (var 0) (var 0) (omega arith) (omega arith)) (All-nil (LiteralOver 1));
  }

  step_over : Over (step_clause edges)
  step_over = record {
    few = omega arith;
    literals = All-cons (LiteralOver 3) _ (edge false (var 0) (var 2) ∷ path edges false (var 2) (var 1) ∷ []) (path_over edges 3 true (var 0) (var 1) (omega arith) (omega arith))
        (All-cons (LiteralOver 3) _ (path edges false (var 2) (var 1) ∷ []) (edge_over edges 3 false (var 0) (var 2) (omega arith) (omega arith))
        (All-cons (LiteralOver 3) _ [] (path_over edges 3 false (var 2) (var 1) (omega arith) (omega arith)) (All-nil (LiteralOver 3))));
  }

  goal_over : 20 ≤ edges → Over (goal_clause edges)
  goal_over many = record {
    few = omega arith;
    literals = All-cons (LiteralOver 0) _ [] (path_over edges 0 false (constant 0) (constant 20) (constant_over edges 0 0 (omega arith)) (constant_over edges 0 20 many)) (All-nil (LiteralOver 0));
  }

  clauses_over : 20 ≤ edges → All Over (sample_clauses edges)
  clauses_over many = All-append Over (edge_clauses edges) _ (edges_over edges (omega arith))
      (All-cons Over (same_clause edges) (step_clause edges ∷ goal_clause edges ∷ []) same_over (All-cons Over (step_clause edges) (goal_clause edges ∷ []) step_over (All-cons Over (goal_clause edges) [] (goal_over many) (All-nil Over))))

length-edge_clauses : (n : ℕ) → length (edge_clauses n) ≡ n
unfolding edge_clauses
length-edge_clauses zero = refl
length-edge_clauses (suc n) = length_push (edge_clauses n) (edge_clause n) n (length-edge_clauses n)

pub sample_valid : (edges : ℕ) → 20 ≤ edges → edges ≤ 50000 → IsValid (problem_over edges)
sample_valid edges many few = record {
  few = (let whole = length-append (edge_clauses edges) (same_clause edges ∷ step_clause edges ∷ goal_clause edges ∷ []) in
      let front = length-edge_clauses edges in omega arith);
  texts = texts_printable edges few;
  equality = none_equal edges;
  clauses = clauses_over edges many;
}
