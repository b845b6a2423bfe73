-- Nodes at which nothing is wrong.
use Rattle.std.specs.Prelude.{◌≡◌, ◌≢◌, ℕ, ◌+◌, ◌<◌, ◌≤◌, List, Contains, Some, slice_get}
use Rattle.pm_logic.specs.declared.problem.Class.{Class}
use Rattle.pm_logic.specs.declared.problem.Class.TheVariants.{Regular}
use Rattle.pm_logic.specs.declared.tableau.Node.{Node as NodeRows}
use Rattle.pm_logic.specs.Problem.{Clause, Problem, start_clauses}
use Rattle.pm_logic.specs.Tableau.{Node, leaf, inner, size}
use Rattle.pm_calculus.specs.Connection.{literal_on, IsFamily, HasComplementaryLeaf}
use Rattle.pm_certread.specs.Certificate.{Certificate}
use Rattle.pm_certread.specs.Laws.{IsCloserOf, HasClauseOf}
use Rattle.pm_check.specs.declared.refusal.RefusalKind.{RefusalKind}
use Rattle.pm_check.specs.declared.refusal.Refusal.{Refusal}
use Rattle.pm_check.specs.Kinds.{rank, size_kind}
use Rattle.pm_check.specs.PlacedNodes.{PlacedNode, placed_nodes}
use Rattle.pm_check.specs.Offences.{OffendsAt, RootOffends}
use Rattle.pm_check.specs.Verdicts.{IsClosedAsNamed}

-- the children of an inner node are an instance of its clause
abbrev pub HasFamily : List Clause → Node → Type 0
HasFamily clauses (leaf literal) = Unit {0}
HasFamily clauses (inner literal clause children) = IsFamily clauses clause children

-- an inner node has a child that is a leaf and complementary to it
abbrev pub HasConnection : Node → Type 0
HasConnection (leaf literal) = Unit {0}
HasConnection (inner literal clause children) = HasComplementaryLeaf literal children

-- what is asked of a node by itself
pub record IsSound (clauses : List Clause) (class : Class) (placed : PlacedNode) : Type 0 where
  pub family : HasFamily clauses placed.node
  pub connected : HasConnection placed.node
  pub regular : class ≡ Regular → ¬ Contains placed.above (literal_on placed.node)

-- nothing is wrong at the node
pub record Passes (clauses : List Clause) (class : Class) (placed : PlacedNode)
    (ancestor : ℕ) : Type 0 where
  pub sound : IsSound clauses class placed
  pub closed : IsClosedAsNamed placed.above placed.node ancestor

-- nothing is wrong at the node, but that an ancestor may carry its literal
pub record PassesByItself (clauses : List Clause) (placed : PlacedNode) (ancestor : ℕ)
    : Type 0 where
  pub family : HasFamily clauses placed.node
  pub connected : HasConnection placed.node
  pub closed : IsClosedAsNamed placed.above placed.node ancestor

-- the first kind for which something is wrong at the node
pub record IsFirstAt (clauses : List Clause) (class : Class) (placed : PlacedNode)
    (ancestor : ℕ) (kind : RefusalKind) : Type 0 where
  pub offends : OffendsAt clauses class placed ancestor kind
  pub first :
      (other : RefusalKind) → OffendsAt clauses class placed ancestor other → rank kind ≤ rank other

-- the same, whatever the class
abbrev pub IsOwnOffence : List Clause → PlacedNode → ℕ → RefusalKind → Type 0
IsOwnOffence clauses placed ancestor kind =
    (class : Class) → IsFirstAt clauses class placed ancestor kind

-- a node below a branch of so many, over so many clauses, beside which this ancestor is named
pub record IsFit (clauses above ancestor : ℕ) (node : NodeRows) : Type 0 where
  pub depth : node.depth ≡ above + 1
  pub shallow : node.depth ≤ 250
  pub clause : HasClauseOf clauses node.kind
  pub closer : IsCloserOf node.kind node.depth ancestor

-- nothing is wrong at so many nodes
abbrev pub AllPass : Problem → Certificate → ℕ → Type 0
AllPass over certificate count =
    (i : ℕ) (placed : PlacedNode) (ancestor : ℕ) → i < count
    → slice_get (placed_nodes certificate.tableau.tableau) i ≡ Some placed
    → slice_get certificate.closers i ≡ Some ancestor
    → Passes over.clauses certificate.class placed ancestor

-- the first node at which something is wrong
pub record IsFirstNode (over : Problem) (certificate : Certificate) (refusal : Refusal)
    : Type 0 where
  pub index : ℕ
  pub placed : PlacedNode
  pub ancestor : ℕ
  pub line_is : refusal.line ≡ certificate.root_line + 1 + index
  pub stands : slice_get (placed_nodes certificate.tableau.tableau) index ≡ Some placed
  pub named : slice_get certificate.closers index ≡ Some ancestor
  pub offends : IsFirstAt over.clauses certificate.class placed ancestor refusal.kind
  pub before : AllPass over certificate index

-- what is wrong with the root, of several kinds the first
pub record IsFirstAtRoot (over : Problem) (certificate : Certificate) (refusal : Refusal)
    : Type 0 where
  pub line_is : refusal.line ≡ certificate.root_line
  pub offends :
      RootOffends over.clauses certificate.start certificate.tableau.tableau refusal.kind
  pub first :
      (other : RefusalKind)
      → RootOffends over.clauses certificate.start certificate.tableau.tableau other
      → rank refusal.kind ≤ rank other

-- nothing is wrong with the root
pub record RootPasses (over : Problem) (certificate : Certificate) : Type 0 where
  pub start :
      Contains (start_clauses certificate.start over.clauses) certificate.tableau.tableau.root
  pub family :
      IsFamily over.clauses certificate.tableau.tableau.root certificate.tableau.tableau.children

-- the header's number isn't the size
pub record DiffersInSize (certificate : Certificate) (refusal : Refusal) : Type 0 where
  pub line_is : refusal.line ≡ certificate.header
  pub differs : certificate.size ≢ size certificate.bound certificate.tableau.tableau
  pub kind_is : refusal.kind ≡ size_kind certificate.bound
