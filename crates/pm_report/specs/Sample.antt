-- The sample problem: a chain of constants, the rules of reachability over it, and a goal.
use Rattle.std.specs.Prelude.{ℕ, zero, suc, ◌+◌, ◌*◌, Bool, true, false, List, [], ◌∷◌, ◌++◌}
use Rattle.std.specs.Prelude.{codes, decimal}
use Rattle.pm_logic.specs.declared.symbols.Kind.TheVariants.{Predicate, Function}
use Rattle.pm_logic.specs.Problem.{Symbol, Literal, word, integer, Clause, Problem}
use Rattle.pm_logic.specs.Term.{Term, var, app, no_terms}

-- Symbols are numbered by first occurrence: `e`, the constants `c0`, `c1` and so on, and `r`.
abbrev pub edge_symbol : Symbol
edge_symbol = record { text = codes "e"; arity = 2; kind = Predicate }

abbrev pub path_symbol : Symbol
path_symbol = record { text = codes "r"; arity = 2; kind = Predicate }

abbrev pub constant_symbol : ℕ → Symbol
constant_symbol k = record { text = codes "c" ++ decimal k; arity = 0; kind = Function }

-- those of the first so many constants
unfoldable pub constant_symbols : ℕ → List Symbol
constant_symbols zero = []
constant_symbols (suc k) = constant_symbols k ++ constant_symbol k ∷ []

-- the symbols over a chain of so many edges
abbrev pub sample_symbols : ℕ → List Symbol
sample_symbols edges = edge_symbol ∷ (constant_symbols (edges + 1) ++ path_symbol ∷ [])

-- the number of `r`
abbrev pub path_number : ℕ → ℕ
path_number edges = edges + 2

abbrev pub constant : ℕ → Term
constant k = app (k + 1) no_terms

-- Terms come in the order in which a reader adds them: the arguments of the first edge from right
-- to left, so `c1` before `c0`, and then of each edge the one that is new.
abbrev pub turned : ℕ → ℕ
turned zero = 1
turned (suc zero) = 0
turned (suc (suc k)) = suc (suc k)

unfoldable pub constant_terms : ℕ → List Term
constant_terms zero = []
constant_terms (suc k) = constant_terms k ++ constant (turned k) ∷ []

-- the terms over a chain of so many edges
abbrev pub sample_terms : ℕ → List Term
sample_terms edges = constant_terms (edges + 1) ++ var 0 ∷ var 1 ∷ var 2 ∷ []

abbrev pub edge : Bool → Term → Term → Literal
edge positive from to = record { positive = positive; predicate = 0; args = from ∷ to ∷ [] }

abbrev pub path : ℕ → Bool → Term → Term → Literal
path edges positive from to =
    record { positive = positive; predicate = path_number edges; args = from ∷ to ∷ [] }

-- the edge from a constant to the next one, named by its number
abbrev pub edge_clause : ℕ → Clause
edge_clause i = record {
  name = integer (decimal i);
  role = codes "axiom";
  vars = 0;
  literals = edge true (constant i) (constant (i + 1)) ∷ [];
}

unfoldable pub edge_clauses : ℕ → List Clause
edge_clauses zero = []
edge_clauses (suc i) = edge_clauses i ++ edge_clause i ∷ []

-- r(X,X)
abbrev pub same_clause : ℕ → Clause
same_clause edges = record {
  name = word (codes "same");
  role = codes "axiom";
  vars = 1;
  literals = path edges true (var 0) (var 0) ∷ [];
}

-- r(X,Z) | ~e(X,Y) | ~r(Y,Z), where Z is numbered before Y
abbrev pub step_clause : ℕ → Clause
step_clause edges = record {
  name = word (codes "step");
  role = codes "axiom";
  vars = 3;
  literals =
      path edges true (var 0) (var 1) ∷ edge false (var 0) (var 2)
      ∷ path edges false (var 2) (var 1) ∷ [];
}

-- ~r(c0,c20)
abbrev pub goal_clause : ℕ → Clause
goal_clause edges = record {
  name = word (codes "goal");
  role = codes "negated_conjecture";
  vars = 0;
  literals = path edges false (constant 0) (constant 20) ∷ [];
}

abbrev pub sample_clauses : ℕ → List Clause
sample_clauses edges =
    edge_clauses edges ++ same_clause edges ∷ step_clause edges ∷ goal_clause edges ∷ []

abbrev pub problem_over : ℕ → Problem
problem_over edges = record {
  symbols = sample_symbols edges;
  terms = sample_terms edges;
  clauses = sample_clauses edges;
}

-- the sample problem of this number: its chain has a thousand edges for each
abbrev pub sample_problem : ℕ → Problem
sample_problem n = problem_over (1000 * n)
