-- Substitution, instances, and complementary literals.
use Rattle.std.specs.Prelude.{◌≡◌, not, List, length, map}
use Rattle.pm_logic.specs.Term.{Term}
use Rattle.pm_logic.specs.Filling.{put}
use Rattle.pm_logic.specs.Problem.{Literal, Clause}
use Rattle.pm_logic.specs.Tableau.{Node, leaf, inner, Nodes, no_nodes, more_nodes, Tableau}

-- a literal with the terms of a list put for its variables
abbrev pub put_in_literal : List Term → Literal → Literal
put_in_literal terms literal =
    record {
      positive = literal.positive;
      predicate = literal.predicate;
      args = map (put terms) literal.args;
    }

-- the literals are the clause's, with one list of terms put for the clause's variables; the terms
-- may hold variables
pub record IsInstance (clause : Clause) (literals : List Literal) : Type 0 where
  pub terms : List Term
  pub count : length terms ≡ clause.vars
  pub each : literals ≡ map (put_in_literal terms) clause.literals

-- the same tree, with each literal changed
abbrev mutual
  pub each_below : (Literal → Literal) → Node → Node
  each_below change (leaf literal) = leaf (change literal)
  each_below change (inner literal clause children) =
      inner (change literal) clause (each_among change children)

  pub each_among : (Literal → Literal) → Nodes → Nodes
  each_among change no_nodes = no_nodes
  each_among change (more_nodes node nodes) =
      more_nodes (each_below change node) (each_among change nodes)

abbrev pub each_in_tableau : (Literal → Literal) → Tableau → Tableau
each_in_tableau change tableau =
    record { root = tableau.root; children = each_among change tableau.children }

-- a tableau with terms put for its variables
abbrev pub put_in_tableau : List Term → Tableau → Tableau
put_in_tableau terms tableau = each_in_tableau (put_in_literal terms) tableau

-- one list of terms, put for the other tableau's variables, gives this one
abbrev pub IsInstanceOf : Tableau → Tableau → Type 0
IsInstanceOf tableau other = (terms : List Term) × (tableau ≡ put_in_tableau terms other)

-- same predicate, same terms, opposite sign
pub record AreComplementary (a b : Literal) : Type 0 where
  pub sign : a.positive ≡ not b.positive
  pub predicate : a.predicate ≡ b.predicate
  pub args : a.args ≡ b.args
