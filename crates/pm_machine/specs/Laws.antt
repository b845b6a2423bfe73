-- The laws of the machine's steps.
use Rattle.std.specs.Prelude.{◌≡◌, List, [], ◌∷◌, ◌++◌, All, Some, None}
use Rattle.pm_logic.specs.Problem.{Clause, Problem, IsValid}
use Rattle.pm_logic.specs.Tableau.{Tableau}
use Rattle.pm_store.specs.Equations.{Equations}
use Rattle.pm_store.specs.Sound.{IsSound}
use Rattle.pm_calculus.specs.Skeleton.{State, Subgoal, depth_of, Step, selected, built}
use Rattle.pm_calculus.specs.Alternatives.{IsStepAt, MayTake}
use Rattle.pm_calculus.specs.Choices.{IsLabelling}
use Rattle.pm_machine.specs.State.{CellNode, MachineState, shape_of, IsOpen, IsSelected}
use Rattle.pm_machine.specs.Labels.{IsBuilt}
use Rattle.pm_machine.specs.Taken.{LeafOf, Takes, StepFails}

-- before the first step, over a sound store, there are no nodes, and nothing is to be shown
abbrev pub MachinesBegin : Type 0
MachinesBegin =
    (problem : Problem) (s : Equations) → IsSound s
    → IsBuilt problem (record { steps = []; equations = s; nodes = [] })

-- a step that may be taken, and is, leaves a machine whose solutions are the labellings of the
-- longer skeleton
abbrev pub StepsBuild : Type 0
StepsBuild =
    (problem : Problem) (step : Step) (m new : MachineState) → IsValid problem
    → IsBuilt problem m → MayTake problem.clauses (built problem.clauses m.steps) step
    → Takes problem.clauses step m new → IsBuilt problem new

-- where a step that may be taken fails, the longer skeleton has no labelling
abbrev pub FailedStepsLabelNothing : Type 0
FailedStepsLabelNothing =
    (problem : Problem) (step : Step) (m : MachineState) → IsValid problem
    → IsBuilt problem m → MayTake problem.clauses (built problem.clauses m.steps) step
    → StepFails problem.clauses step m
    → (tableau : Tableau)
    → ¬ IsLabelling problem.clauses (built problem.clauses (m.steps ++ step ∷ [])) tableau

-- the leaf is what the calculus selects: it has the same depth and the same face
pub record Shows (goal : Subgoal) (leaf : CellNode) : Type 0 where
  pub depth : leaf.depth ≡ depth_of goal
  pub face : (shape_of leaf).face ≡ goal.face

-- the machine's selected leaf is the calculus's
abbrev pub SelectedLeavesAgree : Type 0
SelectedLeavesAgree =
    (problem : Problem) (m : MachineState) (before : List CellNode) (leaf : CellNode)
    (after : List CellNode) → IsBuilt problem m → IsSelected m.nodes before leaf after
    → (goal : Subgoal) × (selected (built problem.clauses m.steps) ≡ Some goal)
    × Shows goal leaf

-- where no leaf is open, none is selected
abbrev pub NoLeafIsSelected : Type 0
NoLeafIsSelected =
    (problem : Problem) (m : MachineState) → IsBuilt problem m
    → All (λ node. ¬ IsOpen node) m.nodes
    → selected (built problem.clauses m.steps) ≡ None

-- a selected leaf has a branch to it
abbrev pub SelectedLeavesHaveBranches : Type 0
SelectedLeavesHaveBranches =
    (problem : Problem) (m : MachineState) (before : List CellNode) (leaf : CellNode)
    (after : List CellNode) → IsBuilt problem m → IsSelected m.nodes before leaf after
    → (at : LeafOf m) × (at.before ≡ before) × (at.leaf ≡ leaf) × (at.after ≡ after)

-- what may be done at the leaf that is selected may be done at what was built
abbrev pub LeavesMayStep : Type 0
LeavesMayStep =
    (clauses : List Clause) (state : State) (goal : Subgoal) (step : Step)
    → selected state ≡ Some goal → IsStepAt clauses goal step → MayTake clauses state step
