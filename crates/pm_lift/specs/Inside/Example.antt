-- The problems and tableaux of the tests, by descriptions of their literals.
use Rattle.std.specs.Prelude.{ℕ, zero, suc, ◌+◌, ◌≤◌, Bool, true, false, cond, ◌==◌, List, [], ◌∷◌, All, length, map, codes}
use Rattle.pm_logic.specs.declared.symbols.Kind.{Kind}
use Rattle.pm_logic.specs.declared.symbols.Kind.TheVariants.{Predicate, Function}
use Rattle.pm_logic.specs.declared.tableau.NodeKind.{NodeKind}
use Rattle.pm_logic.specs.declared.tableau.NodeKind.TheVariants.{Leaf, Inner}
use Rattle.pm_logic.specs.Term.{Term, var, app, no_terms, more_terms, tree_at}
use Rattle.pm_logic.specs.Problem.{Symbol, Literal, Clause, word}
use Rattle.pm_logic.specs.Tableau.{Entry}

abbrev pub symbol : List ℕ → ℕ → Kind → Symbol
symbol text arity kind = record { text = text; arity = arity; kind = kind }

-- the predicates p, q and r, the constant a and the function f
abbrev pub example_symbols : List Symbol
example_symbols =
    symbol (codes "p") 1 Predicate
    ∷ symbol (codes "q") 0 Predicate
    ∷ symbol (codes "r") 0 Predicate
    ∷ symbol (codes "a") 0 Function
    ∷ symbol (codes "f") 1 Function
    ∷ []

abbrev pub x : Term
x = var 0

abbrev pub a : Term
a = app 3 no_terms

abbrev pub f : Term → Term
f t = app 4 (more_terms t no_terms)

abbrev pub example_terms : List Term
example_terms = x ∷ a ∷ f x ∷ f a ∷ f (f a) ∷ var 1 ∷ []

-- the literal of a sign, a predicate and, of the predicate 0, the row of its argument
abbrev pub described : List Term → Bool × ℕ × ℕ → Literal
described terms atom =
    record {
      positive = atom.0;
      predicate = atom.1;
      args = cond (atom.1 == 0) (tree_at terms atom.2 ∷ []) [];
    }

abbrev pub described_clause : List Term → List (Bool × ℕ × ℕ) → Clause
described_clause terms atoms = record {
  name = word (codes "c");
  role = codes "axiom";
  vars = 2;
  literals = map (described terms) atoms;
}

-- a node of a depth, a literal and a kind
abbrev pub described_entry : List Term → ℕ × (Bool × ℕ × ℕ) × NodeKind → Entry
described_entry terms node =
    record { depth = node.0; literal = described terms node.1; kind = node.2 }

-- so few literals, of these predicates
abbrev pub AreFew : List (Bool × ℕ × ℕ) → Type 0
AreFew atoms = (length atoms ≤ 255) × All (λ atom. atom.1 ≤ 2) atoms

-- a branch of nodes ~q from this depth on: so many that are extended by the clause 1, and one by the
-- clause 2, each with a child q that closes by it
unfoldable pub chain : ℕ → ℕ → List (ℕ × (Bool × ℕ × ℕ) × NodeKind)
chain zero at_depth =
    (at_depth, (false, 1, 0), Inner 2) ∷ (at_depth + 1, (true, 1, 0), Leaf) ∷ []
chain (suc count) at_depth =
    (at_depth, (false, 1, 0), Inner 1)
    ∷ (at_depth + 1, (true, 1, 0), Leaf)
    ∷ chain count (at_depth + 1)
