-- Tableaux as trees.
use Rattle.std.specs.Prelude.{◌≡◌, ℕ, zero, suc, ◌+◌, ◌-◌, List, [], ◌∷◌, ◌++◌, max, fold}
use Rattle.pm_logic.specs.declared.tableau.BoundKind.{BoundKind}
use Rattle.pm_logic.specs.declared.tableau.BoundKind.TheVariants.{Depth, Inferences}
use Rattle.pm_logic.specs.declared.tableau.NodeKind.{NodeKind}
use Rattle.pm_logic.specs.declared.tableau.NodeKind.TheVariants.{Leaf, Inner}
use Rattle.pm_logic.specs.Term.{Term}
use Rattle.pm_logic.specs.Problem.{Literal}

-- A node carries a literal. A leaf has no clause; an inner node has one, and children.
mutual
  pub data Node : Type 0 where
    leaf : Literal → Node
    inner : Literal → ℕ → Nodes → Node

  pub data Nodes : Type 0 where
    no_nodes : Nodes
    more_nodes : Node → Nodes → Nodes

-- the root carries a clause and has children
pub record Tableau : Type 0 where
  pub root : ℕ
  pub children : Nodes

-- a tableau beside the list of terms that its literals' rows are of
pub record TableauWithTerms : Type 0 where
  pub terms : List Term
  pub tableau : Tableau

-- the number of literals on the longest branch
abbrev mutual
  pub depth_below : Node → ℕ
  depth_below (leaf literal) = 1
  depth_below (inner literal clause children) = 1 + depth_among children

  pub depth_among : Nodes → ℕ
  depth_among no_nodes = 0
  depth_among (more_nodes node nodes) = max (depth_below node) (depth_among nodes)

abbrev pub depth : Tableau → ℕ
depth tableau = depth_among tableau.children

-- the number of nodes that carry a clause, the root among them
abbrev mutual
  pub instances_below : Node → ℕ
  instances_below (leaf literal) = 0
  instances_below (inner literal clause children) = 1 + instances_among children

  pub instances_among : Nodes → ℕ
  instances_among no_nodes = 0
  instances_among (more_nodes node nodes) = instances_below node + instances_among nodes

abbrev pub instances : Tableau → ℕ
instances tableau = 1 + instances_among tableau.children

-- the size of a tableau under a bound: its depth, or its number of clause instances
abbrev pub size : BoundKind → Tableau → ℕ
size Depth tableau = depth tableau
size Inferences tableau = instances tableau

-- a node by itself: how deep it lies, its literal, and its kind
pub record Entry : Type 0 where
  pub depth : ℕ
  pub literal : Literal
  pub kind : NodeKind

-- the nodes in pre-order, the first of them at this depth
abbrev mutual
  pub preorder_of : ℕ → Node → List Entry
  preorder_of at_depth (leaf literal) =
      record { depth = at_depth; literal = literal; kind = Leaf } ∷ []
  preorder_of at_depth (inner literal clause children) =
      record { depth = at_depth; literal = literal; kind = Inner clause }
      ∷ preorder_among (at_depth + 1) children

  pub preorder_among : ℕ → Nodes → List Entry
  preorder_among at_depth no_nodes = []
  preorder_among at_depth (more_nodes node nodes) =
      preorder_of at_depth node ++ preorder_among at_depth nodes

abbrev pub preorder : Tableau → List Entry
preorder tableau = preorder_among 1 tableau.children

-- how deep a node may lie at most that comes after one of this kind at this depth
abbrev pub deepest_after : NodeKind → ℕ → ℕ
deepest_after Leaf at_depth = at_depth
deepest_after (Inner clause) at_depth = at_depth + 1

-- The depth that the next node in pre-order may have at most: as deep as a leaf before it, one
-- deeper than an inner node before it, and 1 at first.
abbrev pub deepest_next : List Entry → ℕ
deepest_next [] = 1
deepest_next (e ∷ []) = deepest_after e.kind e.depth
deepest_next (e ∷ f ∷ es) = deepest_next (f ∷ es)

-- a node with this literal, of this kind, that has no children yet
abbrev pub childless : Literal → NodeKind → Node
childless literal Leaf = leaf literal
childless literal (Inner clause) = inner literal clause no_nodes

-- The forest with one more node, the last in pre-order, so many levels below the forest's own
-- nodes: a child of the last node of the level above it.
abbrev mutual
  pub with_last : ℕ → Node → Nodes → Nodes
  with_last level node no_nodes = more_nodes node no_nodes
  with_last zero node (more_nodes first no_nodes) = more_nodes first (more_nodes node no_nodes)
  with_last (suc level) node (more_nodes first no_nodes) =
      more_nodes (with_last_child level node first) no_nodes
  with_last level node (more_nodes first (more_nodes second others)) =
      more_nodes first (with_last level node (more_nodes second others))

  pub with_last_child : ℕ → Node → Node → Node
  with_last_child level node (leaf literal) = leaf literal
  with_last_child level node (inner literal clause children) =
      inner literal clause (with_last level node children)

-- the forest with one more node, the last in pre-order, at this entry's depth
abbrev pub with_entry : Nodes → Entry → Nodes
with_entry nodes entry = with_last (entry.depth - 1) (childless entry.literal entry.kind) nodes

-- the forest of nodes in pre-order, the first of them at depth 1
abbrev pub forest_of : List Entry → Nodes
forest_of entries = fold with_entry no_nodes entries

-- a tableau is determined by its root's clause and its nodes in pre-order
abbrev pub PreorderDetermines : Type 0
PreorderDetermines = (t u : Tableau) → t.root ≡ u.root → preorder t ≡ preorder u → t ≡ u
