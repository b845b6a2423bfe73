-- Which lines of a certificate are wrong.
use Rattle.std.specs.Prelude.{◌≡◌, ℕ, ◌+◌, ◌<◌, ◌≤◌, ◌⊎◌, List, Contains, Some, IsSomeAnd, slice_get}
use Rattle.pm_logic.specs.declared.problem.Class.{Class}
use Rattle.pm_logic.specs.declared.problem.Class.TheVariants.{Regular}
use Rattle.pm_logic.specs.declared.problem.Start.{Start}
use Rattle.pm_logic.specs.Problem.{Literal, Clause, Problem, start_clauses}
use Rattle.pm_logic.specs.Tableau.{Node, leaf, inner, Tableau}
use Rattle.pm_calculus.specs.Substitution.{AreComplementary}
use Rattle.pm_calculus.specs.Connection.{literal_on, IsFamily, HasComplementaryLeaf}
use Rattle.pm_calculus.specs.Choices.{at_depth}
use Rattle.pm_certread.specs.Certificate.{Certificate}
use Rattle.pm_check.specs.declared.refusal.RefusalKind.{RefusalKind}
use Rattle.pm_check.specs.declared.refusal.RefusalKind.TheVariants.{NotStart, NotInstance, NotComplementary, NotConnected, NotRegular}
use Rattle.pm_check.specs.Kinds.{rank}
use Rattle.pm_check.specs.PlacedNodes.{PlacedNode, placed_nodes}

-- the ancestor at this depth is complementary to the literal
abbrev pub IsClosedAt : List Literal → Literal → ℕ → Type 0
IsClosedAt above literal ancestor = IsSomeAnd (at_depth above ancestor) (AreComplementary literal)

-- the children of an inner node aren't an instance of its clause
abbrev pub IsNoInstance : List Clause → Node → Type 0
IsNoInstance clauses (leaf literal) = ⊥
IsNoInstance clauses (inner literal clause children) = ¬ IsFamily clauses clause children

-- the ancestor that a leaf names isn't complementary to it
abbrev pub IsNotClosed : List Literal → Node → ℕ → Type 0
IsNotClosed above (leaf literal) ancestor = ¬ IsClosedAt above literal ancestor
IsNotClosed above (inner literal clause children) ancestor = ⊥

-- an inner node has no child that is a leaf and complementary to it
abbrev pub IsUnconnected : Node → Type 0
IsUnconnected (leaf literal) = ⊥
IsUnconnected (inner literal clause children) = ¬ HasComplementaryLeaf literal children

-- the class is regular, and an ancestor carries the node's literal
abbrev pub IsRepeated : Class → PlacedNode → Type 0
IsRepeated class placed = (class ≡ Regular) × Contains placed.above (literal_on placed.node)

-- what is wrong with a node, where the certificate names this ancestor beside it
abbrev pub OffendsAt : List Clause → Class → PlacedNode → ℕ → RefusalKind → Type 0
OffendsAt clauses class placed ancestor NotInstance = IsNoInstance clauses placed.node
OffendsAt clauses class placed ancestor NotComplementary =
    IsNotClosed placed.above placed.node ancestor
OffendsAt clauses class placed ancestor NotConnected = IsUnconnected placed.node
OffendsAt clauses class placed ancestor NotRegular = IsRepeated class placed
OffendsAt clauses class placed ancestor kind = ⊥

-- what is wrong with the root: its clause is no start clause, or its children aren't an instance of
-- its clause
abbrev pub RootOffends : List Clause → Start → Tableau → RefusalKind → Type 0
RootOffends clauses rule tableau NotStart = ¬ Contains (start_clauses rule clauses) tableau.root
RootOffends clauses rule tableau NotInstance = ¬ IsFamily clauses tableau.root tableau.children
RootOffends clauses rule tableau kind = ⊥

-- the node of this line is wrong: the nodes' lines follow the root's, in pre-order
pub record NodeOffends (over : Problem) (certificate : Certificate) (line : ℕ)
    (kind : RefusalKind) : Type 0 where
  pub index : ℕ
  pub placed : PlacedNode
  pub ancestor : ℕ
  pub line_is : line ≡ certificate.root_line + 1 + index
  pub stands : slice_get (placed_nodes certificate.tableau.tableau) index ≡ Some placed
  pub named : slice_get certificate.closers index ≡ Some ancestor
  pub offends : OffendsAt over.clauses certificate.class placed ancestor kind

-- the line is wrong
abbrev pub Offends : Problem → Certificate → ℕ → RefusalKind → Type 0
Offends over certificate line kind =
    ((line ≡ certificate.root_line)
    × RootOffends over.clauses certificate.start certificate.tableau.tableau kind)
    ⊎ NodeOffends over certificate line kind

-- the first line that is wrong, and of several kinds at it the first
pub record IsFirstOffence (over : Problem) (certificate : Certificate) (line : ℕ)
    (kind : RefusalKind) : Type 0 where
  pub offends : Offends over certificate line kind
  pub first :
      (other : ℕ) (other_kind : RefusalKind) → Offends over certificate other other_kind
      → (line < other) ⊎ ((line ≡ other) × (rank kind ≤ rank other_kind))
