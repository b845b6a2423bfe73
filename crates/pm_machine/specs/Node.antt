-- What a machine shows: its nodes, and the selected leaf.
use Rattle.std.specs.Prelude.{◌≡◌, Option, Some, None}
use Rattle.pm_calculus.specs.Skeleton.{Subgoal, depth_of}
use Rattle.pm_machine.specs.declared.node.MachineNode.{MachineNode}
use Rattle.pm_machine.specs.declared.node.LeafView.{LeafView}
use Rattle.pm_machine.specs.State.{CellNode}

-- a node, as it is seen
abbrev pub node_of : MachineNode → CellNode
node_of node = record {
  depth = node.depth;
  literal = record {
    positive = node.positive;
    predicate = node.predicate;
    args = node.args.items;
  };
  clause = node.clause;
  closed_by = node.closed_by;
}

-- the view has the depth and the face of the goal
pub record IsViewOf (goal : Subgoal) (view : LeafView) : Type 0 where
  pub depth : view.depth ≡ depth_of goal
  pub positive : view.positive ≡ goal.face.positive
  pub predicate : view.predicate ≡ goal.face.predicate

-- the view is of the goal; there is none where there is no goal
abbrev pub Views : Option Subgoal → Option LeafView → Type 0
Views None None = Unit {0}
Views (Some goal) (Some view) = IsViewOf goal view
Views goal view = ⊥
