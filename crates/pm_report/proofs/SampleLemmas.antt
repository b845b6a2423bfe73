-- The symbols, terms and clauses of the sample, place by place.
use Rattle.std.proofs.Common.{◌≡◌, ◌∙◌, ◌+◌, ◌^◌, ◌<◌, ◌≤◌, ℕ, zero, suc, List, [], ◌∷◌, ◌++◌, length, get_or, drop, Some, refl, sym, ap, ap₂, subst, arith, inl, inr, codes, decimal, append_assoc}
use Rattle.std.specs.List.{All, Contains}
use Rattle.std.specs.Prelude.{map, slice_get}
use Rattle.std.proofs.lemmas.Bool.{cases_lt}
use Rattle.std.proofs.lemmas.Fmt.{decimal_injective}
use Rattle.std.proofs.lemmas.List.{get_or_append_left, length-append, map-append}
use Rattle.std.proofs.Math.Seq.{get_or-append_seam}
use Rattle.std.proofs.lemmas.List.Elements.{All-append, All-cons, All-nil, Contains-append_cases}
use Rattle.pm_logic.specs.declared.symbols.Kind.TheVariants.{Predicate, Function}
use Rattle.pm_logic.specs.declared.problem.Clause as code
use Rattle.pm_logic.specs.Problem.{Clause, Problem, Symbol, Numbers}
use Rattle.pm_logic.specs.View.{clause_of}
use Rattle.pm_logic.specs.Table.{Adds, variable_count}
use Rattle.pm_logic.specs.Term.{Term, var, app, no_terms, tree_at}
use Rattle.pm_report.specs.Sample.{edge_clause, edge_clauses, problem_over, sample_clauses, constant, constant_symbol, constant_symbols, constant_terms, edge_symbol, path_symbol, sample_symbols, sample_terms, turned}
use Rattle.pm_report.proofs.LineLemmas.{contains_cases}

-- ---- lists

module _ {X : Type 0} where
  pub get_left : (xs ys : List X) (i : ℕ) → i < length xs → slice_get (xs ++ ys) i ≡ slice_get xs i
  get_left [] ys i lt = absurd (omega arith)
  get_left (x ∷ xs) ys zero lt = refl
  get_left (x ∷ xs) ys (suc i) lt = get_left xs ys i (omega arith)

  pub get_here : (xs ys : List X) (y : X) (i : ℕ) → i ≡ length xs → slice_get (xs ++ y ∷ ys) i ≡ Some y
  get_here [] ys y zero e = refl
  get_here [] ys y (suc i) e = absurd (omega arith)
  get_here (x ∷ xs) ys y zero e = absurd (omega arith)
  get_here (x ∷ xs) ys y (suc i) e = get_here xs ys y i (omega arith)

  pub length_push : (xs : List X) (x : X) (n : ℕ) → length xs ≡ n → length (xs ++ x ∷ []) ≡ suc n
  length_push xs x n e = omega (arith, length-append xs (x ∷ []))

-- ---- terms

pub turned_twice : (k : ℕ) → turned (turned k) ≡ k
turned_twice zero = refl
turned_twice (suc zero) = refl
turned_twice (suc (suc k)) = refl

turned_injective : (a b : ℕ) → turned a ≡ turned b → a ≡ b
turned_injective a b e = sym (turned_twice a) ∙ ap turned e ∙ turned_twice b

pub turned_below : (k n : ℕ) → k < n → 2 ≤ n → turned k < n
turned_below zero n lt two = omega arith
turned_below (suc zero) n lt two = omega arith
turned_below (suc (suc k)) n lt two = lt

pub length-constant_terms : (n : ℕ) → length (constant_terms n) ≡ n
unfolding constant_terms
length-constant_terms zero = refl
length-constant_terms (suc n) = length_push (constant_terms n) (constant (turned n)) n (length-constant_terms n)

same_constant : (a b : ℕ) → constant a ≡ constant b → a ≡ b
same_constant a b e = let next : a + 1 ≡ b + 1 = cc in omega arith

pub new_term : (n k : ℕ) → n ≤ k → Contains (constant_terms n) (constant (turned k)) → ⊥
unfolding constant_terms
new_term zero k le h = absurd (omega (arith, h.1))
new_term (suc n) k le h = elim (Contains-append_cases (constant_terms n) (constant (turned n) ∷ []) (constant (turned k)) h) [
  | inl before ↦ new_term n k (omega arith) before
  | inr last ↦ elim (contains_cases (constant (turned n)) (constant (turned k)) [] last) [
    | inl e ↦ (let same : n ≡ k = turned_injective n k (same_constant (turned n) (turned k) e) in omega arith)
    | inr none ↦ omega (arith, none.1)
  ]
]

-- one more constant becomes the last term
pub term_added : (old new : List Term) (k row : ℕ) → old ≡ constant_terms k → Adds old new (constant (turned k)) row → new ≡ constant_terms (suc k)
unfolding constant_terms
term_added old new k row is adds = elim adds.grows [
  | inl there ↦ absurd (new_term k k (omega arith) (subst (λ (ts : List Term). Contains ts (constant (turned k))) is there.1))
  | inr added ↦ added.0 ∙ ap (λ (ts : List Term). ts ++ constant (turned k) ∷ []) is
]

count_append : (xs ys : List Term) → variable_count (xs ++ ys) ≡ variable_count xs + variable_count ys
count_append [] ys = omega arith
count_append (var n ∷ xs) ys = let e = count_append xs ys in omega arith
count_append (app f ts ∷ xs) ys = count_append xs ys

no_variables : (n : ℕ) → variable_count (constant_terms n) ≡ 0
unfolding constant_terms
no_variables zero = refl
no_variables (suc n) = let e = count_append (constant_terms n) (constant (turned n) ∷ []) in let f = no_variables n in omega arith

-- three variables after the constants
pub variables_added : (n : ℕ) (old one two three : List Term) → old ≡ constant_terms n → one ≡ old ++ var (variable_count old) ∷ []
    → two ≡ one ++ var (variable_count one) ∷ [] → three ≡ two ++ var (variable_count two) ∷ [] → three ≡ constant_terms n ++ var 0 ∷ var 1 ∷ var 2 ∷ []
variables_added n old one two three is first second third =
    let ts = constant_terms n in
    let none : variable_count old ≡ 0 = ap variable_count is ∙ no_variables n in
    let a : one ≡ ts ++ var 0 ∷ [] = first ∙ ap₂ (λ (l : List Term) (v : ℕ). l ++ var v ∷ []) is none in
    let count_a : variable_count one ≡ 1 = ap variable_count a ∙ count_append ts (var 0 ∷ []) ∙ ap (λ c. c + 1) (no_variables n) in
    let b : two ≡ (ts ++ var 0 ∷ []) ++ var 1 ∷ [] = second ∙ ap₂ (λ (l : List Term) (v : ℕ). l ++ var v ∷ []) a count_a in
    let count_b : variable_count two ≡ 2 = ap variable_count b ∙ count_append (ts ++ var 0 ∷ []) (var 1 ∷ []) ∙ ap (λ c. c + 1) (sym (ap variable_count a) ∙ count_a) in
    third ∙ ap₂ (λ (l : List Term) (v : ℕ). l ++ var v ∷ []) b count_b
    ∙ append_assoc (ts ++ var 0 ∷ []) (var 1 ∷ []) (var 2 ∷ []) ∙ append_assoc ts (var 0 ∷ []) (var 1 ∷ var 2 ∷ [])

term_at : (n i : ℕ) → i < n → tree_at (constant_terms n) i ≡ constant (turned i)
unfolding constant_terms
term_at zero i lt = absurd (omega arith)
term_at (suc n) i lt = elim (cases_lt i n) [
  | inl before ↦ get_or_append_left (constant_terms n) (constant (turned n) ∷ []) (var 0) i (omega (arith, length-constant_terms n)) ∙ term_at n i before
  | inr past ↦ (let here : i ≡ n = omega arith in
      ap (λ (k : ℕ). get_or (constant_terms n ++ constant (turned n) ∷ []) k (var 0)) (here ∙ sym (length-constant_terms n))
      ∙ get_or-append_seam (constant_terms n) (constant (turned n)) [] (var 0) ∙ ap (λ (k : ℕ). constant (turned k)) (sym here))
]

pub constant_row : (edges k : ℕ) → 0 < edges → k ≤ edges → tree_at (sample_terms edges) (turned k) ≡ constant k
constant_row edges k some le =
    let below : turned k < edges + 1 = turned_below k (edges + 1) (omega arith) (omega arith) in
    get_or_append_left (constant_terms (edges + 1)) (var 0 ∷ var 1 ∷ var 2 ∷ []) (var 0) (turned k) (omega (arith, length-constant_terms (edges + 1)))
    ∙ term_at (edges + 1) (turned k) below ∙ ap constant (turned_twice k)

-- ---- symbols

pub length-constant_symbols : (n : ℕ) → length (constant_symbols n) ≡ n
unfolding constant_symbols
length-constant_symbols zero = refl
length-constant_symbols (suc n) = length_push (constant_symbols n) (constant_symbol n) n (length-constant_symbols n)

same_symbol : (a b : ℕ) → a < 2 ^ 64 → b < 2 ^ 64 → constant_symbol a ≡ constant_symbol b → a ≡ b
same_symbol a b small_a small_b e = decimal_injective a b small_a small_b (ap (λ (s : Symbol). drop 1 s.text) e)

new_constant : (n k : ℕ) → n ≤ k → k < 2 ^ 64 → Contains (constant_symbols n) (constant_symbol k) → ⊥
unfolding constant_symbols
new_constant zero k le small h = absurd (omega (arith, h.1))
new_constant (suc n) k le small h = elim (Contains-append_cases (constant_symbols n) (constant_symbol n ∷ []) (constant_symbol k) h) [
  | inl before ↦ new_constant n k (omega arith) small before
  | inr last ↦ elim (contains_cases (constant_symbol n) (constant_symbol k) [] last) [
    | inl e ↦ (let same : n ≡ k = same_symbol n k (omega arith) small e in omega arith)
    | inr none ↦ omega (arith, none.1)
  ]
]

predicate_not_function : (s : Symbol) (k : ℕ) → s.kind ≡ Predicate → s ≡ constant_symbol k → ⊥
predicate_not_function s k is e = let bad : Predicate ≡ Function = sym is ∙ ap (λ (t : Symbol). t.kind) e in cc

no_predicate : (n : ℕ) (s : Symbol) → s.kind ≡ Predicate → Contains (constant_symbols n) s → ⊥
unfolding constant_symbols
no_predicate zero s is h = absurd (omega (arith, h.1))
no_predicate (suc n) s is h = elim (Contains-append_cases (constant_symbols n) (constant_symbol n ∷ []) s h) [
  | inl before ↦ no_predicate n s is before
  | inr last ↦ elim (contains_cases (constant_symbol n) s [] last) [
    | inl e ↦ predicate_not_function s n is (sym e)
    | inr none ↦ omega (arith, none.1)
  ]
]

-- one more constant becomes the last symbol, and so does `r`
pub symbol_added : (old new : List Symbol) (k number : ℕ) → k < 2 ^ 64 → old ≡ edge_symbol ∷ constant_symbols k → Numbers old new (constant_symbol k) number
    → new ≡ edge_symbol ∷ constant_symbols (suc k)
unfolding constant_symbols
symbol_added old new k number small is numbers = elim numbers.grows [
  | inl there ↦ elim (contains_cases edge_symbol (constant_symbol k) (constant_symbols k) (subst (λ (ss : List Symbol). Contains ss (constant_symbol k)) is there.1)) [
    | inl e ↦ absurd (predicate_not_function edge_symbol k refl e)
    | inr later ↦ absurd (new_constant k k (omega arith) small later)
  ]
  | inr added ↦ added.0 ∙ ap (λ (ss : List Symbol). ss ++ constant_symbol k ∷ []) is
]

edge_not_path : edge_symbol ≡ path_symbol → ⊥
edge_not_path e = let bad : ◌≡◌ {A = ℕ} 101 114 = ap (λ (s : Symbol). get_or s.text 0 0) e in omega arith

pub path_added : (old new : List Symbol) (n number : ℕ) → old ≡ edge_symbol ∷ constant_symbols n → Numbers old new path_symbol number
    → new ≡ edge_symbol ∷ (constant_symbols n ++ path_symbol ∷ [])
path_added old new n number is numbers = elim numbers.grows [
  | inl there ↦ elim (contains_cases edge_symbol path_symbol (constant_symbols n) (subst (λ (ss : List Symbol). Contains ss path_symbol) is there.1)) [
    | inl e ↦ absurd (edge_not_path e)
    | inr later ↦ absurd (no_predicate n path_symbol refl later)
  ]
  | inr added ↦ added.0 ∙ ap (λ (ss : List Symbol). ss ++ path_symbol ∷ []) is
]

pub first_added : (new : List Symbol) (number : ℕ) → Numbers [] new edge_symbol number → new ≡ edge_symbol ∷ constant_symbols 0
unfolding constant_symbols
first_added new number numbers = elim numbers.grows [
  | inl there ↦ absurd (omega (arith, there.1.1))
  | inr added ↦ added.0
]

pub length-sample_terms : (edges : ℕ) → length (sample_terms edges) ≡ edges + 4
length-sample_terms edges =
    let whole = length-append (constant_terms (edges + 1)) (var 0 ∷ var 1 ∷ var 2 ∷ []) in
    let front = length-constant_terms (edges + 1) in
    omega arith

-- ---- the loops that add them

next_number : (k : ℕ) → suc k ≡ k + 1
next_number k = omega arith

pub symbol_after : (old new : List Symbol) (k number : ℕ) (text : List ℕ) → k < 2 ^ 32 → text ≡ codes "c" ++ decimal k → old ≡ edge_symbol ∷ constant_symbols k
    → Numbers old new (record { text = text; arity = 0; kind = Function }) number → new ≡ edge_symbol ∷ constant_symbols (k + 1)
symbol_after old new k number text small named is numbers =
    let named_numbers = subst (λ (t : List ℕ). Numbers old new (record { text = t; arity = 0; kind = Function }) number) named numbers in
    symbol_added old new k number (omega arith) is named_numbers ∙ ap (λ (n : ℕ). edge_symbol ∷ constant_symbols n) (next_number k)

pub term_after : (old new : List Term) (k row symbol : ℕ) → symbol ≡ turned k + 1 → old ≡ constant_terms k → Adds old new (app symbol no_terms) row → new ≡ constant_terms (k + 1)
term_after old new k row symbol named is adds =
    term_added old new k row is (subst (λ (f : ℕ). Adds old new (app f no_terms) row) named adds) ∙ ap constant_terms (next_number k)

pub few_symbols : (symbols : List Symbol) (k : ℕ) → symbols ≡ edge_symbol ∷ constant_symbols k → length symbols ≡ suc k
few_symbols symbols k is = ap length is ∙ ap suc (length-constant_symbols k)

-- ---- the clauses

pub edges_after : (terms : List Term) (old new : List code.Clause) (clause : code.Clause) (i : ℕ) → map (clause_of terms) old ≡ edge_clauses i
    → clause_of terms clause ≡ edge_clause i → new ≡ old ++ clause ∷ [] → map (clause_of terms) new ≡ edge_clauses (i + 1)
unfolding edge_clauses
edges_after terms old new clause i is made pushed =
    ap (map (clause_of terms)) pushed ∙ map-append (clause_of terms) old (clause ∷ []) ∙ ap₂ (λ (cs : List Clause) (c : Clause). cs ++ c ∷ []) is made
    ∙ ap edge_clauses (next_number i)

module _ {X : Type 0} (P : X → Type 0) where
  pub all_push : (old new : List X) (x : X) → All P old → P x → new ≡ old ++ x ∷ [] → All P new
  all_push old new x all p pushed = subst (All P) (sym pushed) (All-append P old (x ∷ []) all (All-cons P x [] p (All-nil P)))

-- the problem of these symbols, terms and clauses
pub problem_is : (edges : ℕ) (symbols : List Symbol) (terms : List Term) (clauses : List Clause) → symbols ≡ sample_symbols edges → terms ≡ sample_terms edges
    → clauses ≡ sample_clauses edges → ◌≡◌ {A = Problem} (record { symbols = symbols; terms = terms; clauses = clauses }) (problem_over edges)
problem_is edges symbols terms clauses are_symbols are_terms are_clauses =
    λ i. record { symbols = are_symbols i; terms = are_terms i; clauses = are_clauses i }
