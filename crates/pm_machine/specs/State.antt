-- What the machine has between steps: the steps taken, the store, and the nodes in pre-order.
use Rattle.std.specs.Prelude.{◌≡◌, ℕ, suc, ◌+◌, ◌<◌, if◌then◌else◌, List, [], ◌∷◌, ◌++◌, All, Option, Some, None, length, map, slice_get, take, drop}
use Rattle.pm_store.specs.Equations.{Equations}
use Rattle.pm_run.specs.State.{CellLiteral, Child}
use Rattle.pm_calculus.specs.Skeleton.{SkeletonNode, Step}

-- A node, with a literal over cells. A node that was extended has a clause; a closed leaf has the
-- depth of the ancestor that closes it.
pub record CellNode : Type 0 where
  pub depth : ℕ
  pub literal : CellLiteral
  pub clause : Option ℕ
  pub closed_by : Option ℕ

-- the steps that were taken, in order, the store after them, and the nodes that they built
pub record MachineState : Type 0 where
  pub steps : List Step
  pub equations : Equations
  pub nodes : List CellNode

-- what a node shows without its arguments
abbrev pub shape_of : CellNode → SkeletonNode
shape_of node = record {
  depth = node.depth;
  face = record { positive = node.literal.positive; predicate = node.literal.predicate };
  clause = node.clause;
  closed_by = node.closed_by;
}

-- the node is a leaf that isn't closed
pub record IsOpen (node : CellNode) : Type 0 where
  pub leaf : node.clause ≡ None
  pub unclosed : node.closed_by ≡ None

-- the selected leaf is the first open one: it stands between these nodes
pub record IsSelected (nodes before : List CellNode) (leaf : CellNode)
    (after : List CellNode) : Type 0 where
  pub stands : nodes ≡ before ++ leaf ∷ after
  pub unclosed : IsOpen leaf
  pub first : All (λ node. ¬ IsOpen node) before

-- of a node after these ones the ancestor at a depth is the last of them that isn't deeper
pub record IsAncestorAt (before : List CellNode) (depth : ℕ) (ancestor : CellNode) : Type 0 where
  pub earlier : List CellNode
  pub later : List CellNode
  pub stands : before ≡ earlier ++ ancestor ∷ later
  pub at_depth : ancestor.depth ≡ depth
  pub last : All (λ node. depth < node.depth) later

-- the branch to a leaf after these nodes: the literals of its ancestors, the one at depth 1 first,
-- and its own
pub record IsBranchTo (before : List CellNode) (leaf : CellNode)
    (branch : List CellLiteral) : Type 0 where
  pub above : List CellNode
  pub literals : branch ≡ map (λ node. node.literal) above ++ leaf.literal ∷ []
  pub depth : leaf.depth ≡ length above + 1
  pub ancestors : (place : ℕ) (ancestor : CellNode) → slice_get above place ≡ Some ancestor
      → IsAncestorAt before (place + 1) ancestor

-- the place of the selected leaf: the nodes before it aren't open, and it is, where it is there
pub record IsPlaceOfLeaf (nodes : List CellNode) (place : ℕ) : Type 0 where
  pub leaf :
      (leaf : CellNode) → slice_get nodes place ≡ Some leaf
      → IsSelected nodes (take place nodes) leaf (drop (suc place) nodes)
  pub none : slice_get nodes place ≡ None → All (λ node. ¬ IsOpen node) nodes

-- the places of the selected leaf's ancestors: one for each depth above its own
pub record AreAncestors (nodes : List CellNode) (places : List ℕ) : Type 0 where
  pub count :
      (before : List CellNode) (leaf : CellNode) (after : List CellNode)
      → IsSelected nodes before leaf after → leaf.depth ≡ length places + 1
  pub each :
      (before : List CellNode) (leaf : CellNode) (after : List CellNode) (level place : ℕ)
      → IsSelected nodes before leaf after → slice_get places level ≡ Some place
      → (place < length before) × (ancestor : CellNode)
      × (slice_get nodes place ≡ Some ancestor) × IsAncestorAt before (level + 1) ancestor

-- a new child of a node at a depth, the root's children being those of depth 0
abbrev pub child_at : ℕ → Child → CellNode
child_at depth child = record {
  depth = depth + 1;
  literal = child.literal;
  clause = None;
  closed_by = if child.closed then Some depth else None;
}
