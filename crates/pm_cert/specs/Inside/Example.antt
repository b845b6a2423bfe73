-- The tableau of the tests: that of the clauses `p(a)`, `~p(X) | p(f(X))` and `~p(f(f(a)))`.
use Rattle.std.specs.Prelude.{ℕ, Bool, true, false, List, [], ◌∷◌, codes}
use Rattle.pm_logic.specs.declared.symbols.Kind.{Kind}
use Rattle.pm_logic.specs.declared.symbols.Kind.TheVariants.{Predicate, Function}
use Rattle.pm_logic.specs.declared.tableau.NodeKind.{NodeKind}
use Rattle.pm_logic.specs.declared.tableau.NodeKind.TheVariants.{Leaf, Inner}
use Rattle.pm_logic.specs.Term.{Term, app, no_terms, more_terms}
use Rattle.pm_logic.specs.Problem.{Symbol}
use Rattle.pm_logic.specs.Tableau.{Entry}

abbrev pub symbol : List ℕ → ℕ → Kind → Symbol
symbol text arity kind = record { text = text; arity = arity; kind = kind }

-- the predicate p, the constant a and the function f
abbrev pub chain_symbols : List Symbol
chain_symbols =
    symbol (codes "p") 1 Predicate ∷ symbol (codes "a") 0 Function ∷ symbol (codes "f") 1 Function
    ∷ []

abbrev pub a : Term
a = app 1 no_terms

abbrev pub f : Term → Term
f t = app 2 (more_terms t no_terms)

abbrev pub chain_terms : List Term
chain_terms = a ∷ f a ∷ f (f a) ∷ []

-- a node with a literal of p
abbrev pub chain_node : ℕ → Bool → Term → NodeKind → Entry
chain_node at_depth positive t kind =
    record {
      depth = at_depth;
      literal = record { positive = positive; predicate = 0; args = t ∷ [] };
      kind = kind;
    }

abbrev pub chain_nodes : List Entry
chain_nodes =
    chain_node 1 false (f (f a)) (Inner 1)
    ∷ chain_node 2 false (f a) (Inner 1)
    ∷ chain_node 3 false a (Inner 0)
    ∷ chain_node 4 true a Leaf
    ∷ chain_node 3 true (f a) Leaf
    ∷ chain_node 2 true (f (f a)) Leaf
    ∷ []
