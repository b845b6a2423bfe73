-- The steps that were taken, each with what was there before it.
use Rattle.std.specs.Prelude.{◌≡◌, ℕ, suc, ◌+◌, ◌<◌, ◌≤◌, List, [], ◌∷◌, ◌++◌, Option, Some, length, slice_get, drop}
use Rattle.pm_logic.specs.Problem.{Problem, IsValid}
use Rattle.pm_store.specs.Equations.{Equations}
use Rattle.pm_store.specs.Marks.{HasMark, at_mark}
use Rattle.pm_run.specs.Runner.{HasGroundCells}
use Rattle.pm_calculus.specs.Skeleton as calculus
use Rattle.pm_machine.specs.declared.tree.Step.{Step}
use Rattle.pm_machine.specs.declared.tree.Step.TheVariants.{Start, Extend, Reduce}
use Rattle.pm_machine.specs.declared.tree.Taken.{Taken}
use Rattle.pm_machine.specs.State.{CellNode, MachineState}
use Rattle.pm_machine.specs.Labels.{IsBuilt}
use Rattle.pm_machine.specs.Inside.Frames.{TreeValue, deepest, IsNext, tree_before, CanUndo}

-- the step that was asked for
abbrev pub step_of : Step → calculus.Step
step_of (Start clause) = calculus.start clause
step_of (Extend clause literal) = calculus.extend clause literal
step_of (Reduce ancestor) = calculus.reduce ancestor

-- the steps in order, of those that were taken, the last first
abbrev pub steps_of : List Taken → List calculus.Step
steps_of [] = []
steps_of (t ∷ earlier) = steps_of earlier ++ step_of t.step ∷ []

-- the state that a store and a tree make
abbrev pub state_of : Equations → TreeValue → MachineState
state_of s tree = record { steps = steps_of tree.taken; equations = s; nodes = tree.nodes }

-- the states before each of these steps, the last step's first
abbrev pub states_before : List Taken → Equations → TreeValue → List MachineState
states_before [] s tree = []
states_before (t ∷ earlier) s tree =
    state_of (at_mark s t.mark) (tree_before t earlier tree)
    ∷ states_before earlier (at_mark s t.mark) (tree_before t earlier tree)

-- the depths of nodes don't rise, and the first isn't deeper than this
abbrev pub Falls : ℕ → List CellNode → Type 0
Falls depth [] = Unit {0}
Falls depth (node ∷ nodes) = (node.depth ≤ depth) × Falls node.depth nodes

-- the branch has the place of the last node before the leaf that isn't deeper than a level
pub record HasPlace (tree : TreeValue) (level : ℕ) : Type 0 where
  pub place : ℕ
  pub at : slice_get tree.branch level ≡ Some place
  pub before : place < tree.leaf
  pub ancestor : CellNode
  pub stands : slice_get tree.nodes place ≡ Some ancestor
  pub depth : ancestor.depth ≡ level + 1
  pub last :
      (later : ℕ) (node : CellNode) → place < later → later < tree.leaf
      → slice_get tree.nodes later ≡ Some node → level + 1 < node.depth

-- the tree is at its selected leaf: the first open one, with the places of its ancestors; no node
-- after it lies deeper
pub record IsAtLeaf (tree : TreeValue) : Type 0 where
  pub next : IsNext 0 tree.nodes tree.leaf
  pub below :
      (place : ℕ) (node : CellNode) → slice_get tree.nodes place ≡ Some node
      → (1 ≤ node.depth) × (node.depth ≤ deepest)
  pub room : length tree.branch ≡ deepest
  pub falls :
      (node : CellNode) → slice_get tree.nodes tree.leaf ≡ Some node
      → Falls node.depth (drop (suc tree.leaf) tree.nodes)
  pub above :
      (node : CellNode) (level : ℕ) → slice_get tree.nodes tree.leaf ≡ Some node
      → level + 1 < node.depth → HasPlace tree level

-- what always holds of the store and the tree
pub record IsStanding (problem : Problem) (known : List (Option ℕ)) (s : Equations)
    (tree : TreeValue) : Type 0 where
  pub valid : IsValid problem
  pub built : IsBuilt problem (state_of s tree)
  pub cells : HasGroundCells problem.terms known s
  pub leaf : IsAtLeaf tree

-- it holds, and each step can be undone, after which it holds too
abbrev pub IsHistory : Problem → List (Option ℕ) → List Taken → Equations → TreeValue → Type 0
IsHistory problem known [] s tree = IsStanding problem known s tree
IsHistory problem known (t ∷ earlier) s tree =
    IsStanding problem known s tree × HasMark s t.mark × CanUndo t tree
    × IsHistory problem known earlier (at_mark s t.mark) (tree_before t earlier tree)
