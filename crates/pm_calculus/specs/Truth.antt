-- Truth assignments, and the families that one makes false.
use Rattle.std.specs.Prelude.{ℕ, List, [], ◌∷◌, ◌++◌, All, Contains, MatchBool}
use Rattle.pm_logic.specs.Term.{Term}
use Rattle.pm_logic.specs.Problem.{Literal, Clause}
use Rattle.pm_logic.specs.Tableau.{Node, leaf, inner, Nodes, no_nodes, more_nodes, Tableau}
use Rattle.pm_calculus.specs.Substitution.{IsInstance}
use Rattle.pm_calculus.specs.Connection.{literals_on}

-- a predicate and its terms, variables included as written
pub record Atom : Type 0 where
  pub predicate : ℕ
  pub args : List Term

abbrev pub atom_of : Literal → Atom
atom_of literal = record { predicate = literal.predicate; args = literal.args }

-- a truth assignment is the list of the atoms that are true; a positive literal is true where its
-- atom is, and a negative one where it isn't
abbrev pub IsTrueIn : List Atom → Literal → Type 0
IsTrueIn atoms literal =
    MatchBool literal.positive (Contains atoms (atom_of literal))
    (¬ Contains atoms (atom_of literal))

-- a clause instance is false where none of its literals is true
abbrev pub IsFalseIn : List Atom → List Literal → Type 0
IsFalseIn atoms literals = All (λ literal. ¬ IsTrueIn atoms literal) literals

-- the families of a tableau: the root's, and then each inner node's in pre-order
abbrev mutual
  pub families_below : Node → List (List Literal)
  families_below (leaf literal) = []
  families_below (inner literal clause children) = literals_on children ∷ families_among children

  pub families_among : Nodes → List (List Literal)
  families_among no_nodes = []
  families_among (more_nodes node nodes) = families_below node ++ families_among nodes

abbrev pub families : Tableau → List (List Literal)
families tableau = literals_on tableau.children ∷ families_among tableau.children

-- one of the tableau's families is an instance of one of the clauses, and is false
pub record HasFalseInstance (clauses : List Clause) (tableau : Tableau)
    (atoms : List Atom) : Type 0 where
  pub clause : Clause
  pub given : Contains clauses clause
  pub literals : List Literal
  pub instance : IsInstance clause literals
  pub family : Contains (families tableau) literals
  pub false : IsFalseIn atoms literals
