-- The nodes as they are kept, what each step makes of them, and what undoes it.
use Rattle.std.specs.Prelude.{◌≡◌, ℕ, suc, ◌+◌, ◌-◌, ◌<◌, ◌≤◌, Bool, true, false, if◌then◌else◌, List, [], ◌∷◌, ◌++◌, Some, None, length, map, slice_get, slice_index_or, take, drop, set, replicate, reverse}
use Rattle.std.specs.Option.{option_map_or}
use Rattle.pm_store.specs.Marks.{Counts}
use Rattle.pm_run.specs.State.{Child}
use Rattle.pm_run.specs.Runner.{child_of}
use Rattle.pm_run.specs.declared.children.NewChild.{NewChild}
use Rattle.pm_machine.specs.declared.node.MachineNode.{MachineNode}
use Rattle.pm_machine.specs.Node.{node_of}
use Rattle.pm_machine.specs.declared.tree.Step.{Step}
use Rattle.pm_machine.specs.declared.tree.Step.TheVariants.{Start, Extend, Reduce}
use Rattle.pm_machine.specs.declared.tree.Taken.{Taken}
use Rattle.pm_machine.specs.State.{CellNode, IsOpen, child_at}

-- how deep a node lies at most
abbrev pub deepest : ℕ
deepest = 251

-- the nodes; the places of the ancestors of the selected leaf; the leaf's place; and the steps that
-- were taken, the last first
pub record TreeValue : Type 0 where
  pub nodes : List CellNode
  pub branch : List ℕ
  pub leaf : ℕ
  pub taken : List Taken

abbrev pub no_tree : TreeValue
no_tree = record { nodes = []; branch = replicate deepest 0; leaf = 0; taken = [] }

abbrev pub children_at : ℕ → List Child → List CellNode
children_at depth children = map (child_at depth) children

-- no node from the first place up to the second is open
pub record IsPassed (from : ℕ) (nodes : List CellNode) (leaf : ℕ) : Type 0 where
  pub beyond : from ≤ leaf
  pub within : leaf ≤ length nodes
  pub before :
      (place : ℕ) (node : CellNode) → from ≤ place → place < leaf
      → slice_get nodes place ≡ Some node → ¬ IsOpen node

-- the first open node from this place on: that many nodes, where there is none
pub record IsNext (from : ℕ) (nodes : List CellNode) (leaf : ℕ) : Type 0 where
  pub passed : IsPassed from nodes leaf
  pub here : (node : CellNode) → slice_get nodes leaf ≡ Some node → IsOpen node

-- a leaf is selected, which isn't too deep, and the branch has a place for it
pub record CanStep (tree : TreeValue) : Type 0 where
  pub node : CellNode
  pub stands : slice_get tree.nodes tree.leaf ≡ Some node
  pub below : 1 ≤ node.depth
  pub above : node.depth ≤ deepest
  pub room : length tree.branch ≡ deepest

-- a leaf is selected, and it may be extended
pub record CanExtend (tree : TreeValue) : Type 0 where
  pub steps : CanStep tree
  pub shallow :
      (node : CellNode) → slice_get tree.nodes tree.leaf ≡ Some node → node.depth < deepest

-- the children are the nodes
pub record IsStarted (clause : ℕ) (mark : Counts) (children : List Child)
    (old new : TreeValue) : Type 0 where
  pub nodes : new.nodes ≡ children_at 0 children
  pub branch : new.branch ≡ old.branch
  pub leaf : IsNext 0 new.nodes new.leaf
  pub taken :
      new.taken
      ≡ record {
        step = Start clause;
        mark = mark;
        leaf = 0;
        nodes = 0;
        replaced = 0;
      }
      ∷ old.taken

-- the leaf gets the clause, and its children come after it
pub record IsExtended (clause literal : ℕ) (mark : Counts) (children : List Child)
    (old new : TreeValue) : Type 0 where
  pub node : CellNode
  pub stands : slice_get old.nodes old.leaf ≡ Some node
  pub nodes :
      new.nodes
      ≡ take old.leaf old.nodes
      ++ record node { clause = Some clause }
      ∷ (children_at node.depth children ++ drop (suc old.leaf) old.nodes)
  pub branch : new.branch ≡ set old.branch (node.depth - 1) old.leaf
  pub leaf : IsNext (suc old.leaf) new.nodes new.leaf
  pub taken :
      new.taken
      ≡ record {
        step = Extend clause literal;
        mark = mark;
        leaf = old.leaf;
        nodes = length old.nodes;
        replaced = slice_index_or old.branch (node.depth - 1) 0;
      }
      ∷ old.taken

-- the leaf is closed by the ancestor at this depth
pub record IsReduced (ancestor : ℕ) (mark : Counts) (old new : TreeValue) : Type 0 where
  pub node : CellNode
  pub stands : slice_get old.nodes old.leaf ≡ Some node
  pub nodes :
      new.nodes
      ≡ take old.leaf old.nodes
      ++ record node { closed_by = Some ancestor } ∷ drop (suc old.leaf) old.nodes
  pub branch : new.branch ≡ old.branch
  pub leaf : IsNext (suc old.leaf) new.nodes new.leaf
  pub taken :
      new.taken
      ≡ record {
        step = Reduce ancestor;
        mark = mark;
        leaf = old.leaf;
        nodes = length old.nodes;
        replaced = slice_index_or old.branch (node.depth - 1) 0;
      }
      ∷ old.taken

-- the node as an open leaf
abbrev pub reopened : CellNode → CellNode
reopened node = record node { clause = None; closed_by = None }

-- what a step adds starts with a root
abbrev pub is_start : Step → Bool
is_start (Start clause) = true
is_start (Extend clause literal) = false
is_start (Reduce ancestor) = false

-- how deep the node in a place lies
abbrev pub depth_at : List CellNode → ℕ → ℕ
depth_at nodes place = option_map_or (λ node. node.depth) (slice_get nodes place) 0

-- the nodes with the leaf in this place open again, of which the nodes after the first so many come
-- right after it
abbrev pub reopened_nodes : ℕ → ℕ → List CellNode → List CellNode
reopened_nodes leaf count nodes =
    take leaf nodes
    ++ (map reopened (take 1 (drop leaf nodes)) ++ drop (suc leaf + (length nodes - count)) nodes)

-- the nodes before a step
abbrev pub nodes_before : Taken → List CellNode → List CellNode
nodes_before t nodes = if is_start t.step then [] else reopened_nodes t.leaf t.nodes nodes

-- the branch before a step
abbrev pub branch_before : Taken → List CellNode → List ℕ → List ℕ
branch_before t nodes branch =
    if is_start t.step then branch else set branch (depth_at nodes t.leaf - 1) t.replaced

-- the tree before a step, after those
abbrev pub tree_before : Taken → List Taken → TreeValue → TreeValue
tree_before t earlier tree = record {
  nodes = nodes_before t tree.nodes;
  branch = branch_before t tree.nodes tree.branch;
  leaf = t.leaf;
  taken = earlier;
}

-- the leaf in this place is there, with a place on the branch, and it is one of the first so many
-- nodes
pub record CanReopen (leaf count : ℕ) (tree : TreeValue) : Type 0 where
  pub node : CellNode
  pub stands : slice_get tree.nodes leaf ≡ Some node
  pub below : 1 ≤ node.depth
  pub above : node.depth ≤ deepest
  pub room : length tree.branch ≡ deepest
  pub first : leaf < count
  pub within : count ≤ length tree.nodes

-- the last step can be undone
pub record CanUndo (t : Taken) (tree : TreeValue) : Type 0 where
  pub reopens : is_start t.step ≡ false → CanReopen t.leaf t.nodes tree

-- the last step is undone, and its mark given
abbrev pub Undoes : List Taken → TreeValue → TreeValue → Counts → Type 0
Undoes [] old new mark = ⊥
Undoes (t ∷ earlier) old new mark = (new ≡ tree_before t earlier old) × (mark ≡ t.mark)

-- The first children stand after the nodes, and there is room for the others, the first of which
-- is left last.
pub record AddsChildren (depth : ℕ) (old : List MachineNode) (children : List NewChild)
    (now : List MachineNode) (left : List NewChild) (capacity : ℕ) : Type 0 where
  pub placed : List NewChild
  pub whole : children ≡ placed ++ reverse left
  pub nodes : map node_of now ≡ map node_of old ++ children_at depth (map child_of placed)
  pub room : length now + length left ≤ capacity
