-- A machine over a problem, with the states before each step that was taken.
use Rattle.std.specs.Prelude.{◌≡◌, ℕ, ◌≤◌, Bool, true, false, List, [], ◌∷◌, ◌++◌, Some}
use Rattle.pm_logic.specs.Problem.{Problem}
use Rattle.pm_logic.specs.Tableau.{Tableau}
use Rattle.pm_calculus.specs.Skeleton.{State, Step, Subgoal, depth_of, selected, built}
use Rattle.pm_calculus.specs.Choices.{IsLabelling}
use Rattle.pm_machine.specs.State.{MachineState}
use Rattle.pm_machine.specs.Labels.{IsBuilt}
use Rattle.pm_machine.specs.Taken.{Takes, StepFails}

-- the state now, and those before each step, the last step's first
pub record MachineValue : Type 0 where
  pub problem : Problem
  pub state : MachineState
  pub before : List MachineState

-- what the machine's steps have built
abbrev pub skeleton : MachineValue → State
skeleton m = built m.problem.clauses m.state.steps

-- the selected leaf isn't deeper than this
abbrev pub IsNotDeeper : ℕ → MachineValue → Type 0
IsNotDeeper most m = (goal : Subgoal) → selected (skeleton m) ≡ Some goal → depth_of goal ≤ most

-- the step is taken: its code has come to its end, and the solutions of the store are exactly the
-- labellings of the longer skeleton
pub record IsTaken (step : Step) (old new : MachineValue) : Type 0 where
  pub problem : new.problem ≡ old.problem
  pub before : new.before ≡ old.state ∷ old.before
  pub takes : Takes old.problem.clauses step old.state new.state
  pub built : IsBuilt new.problem new.state

-- the step isn't taken: its code fails, the longer skeleton has no labelling, and the machine is as
-- before
pub record IsRefused (step : Step) (old new : MachineValue) : Type 0 where
  pub same : new ≡ old
  pub fails : StepFails old.problem.clauses step old.state
  pub none :
      (tableau : Tableau)
      → ¬ IsLabelling old.problem.clauses
      (built old.problem.clauses (old.state.steps ++ step ∷ [])) tableau

-- the answer of a step
abbrev pub Answers : Step → MachineValue → MachineValue → Bool → Type 0
Answers step old new true = IsTaken step old new
Answers step old new false = IsRefused step old new

-- before the first step
pub record IsNew (over : Problem) (m : MachineValue) : Type 0 where
  pub problem : m.problem ≡ over
  pub steps : m.state.steps ≡ []
  pub nodes : m.state.nodes ≡ []
  pub before : m.before ≡ []
  pub built : IsBuilt over m.state

-- the last step is undone: the state is the one before it
pub record IsBack (old new : MachineValue) : Type 0 where
  pub problem : new.problem ≡ old.problem
  pub states : new.state ∷ new.before ≡ old.before
  pub built : IsBuilt new.problem new.state
