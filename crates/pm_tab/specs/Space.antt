-- A place in the space of a level.
use Rattle.std.specs.Prelude.{◌≡◌, ℕ, List, Some}
use Rattle.pm_calculus.specs.Connection.{Level}
use Rattle.pm_calculus.specs.Alternatives.{steps_of}
use Rattle.pm_machine.specs.Value.{MachineValue}

-- a list of choices at a level, and the machine that takes its steps
pub record Place : Type 0 where
  pub level : Level
  pub path : List ℕ
  pub machine : MachineValue

-- the machine has taken exactly the steps that the path names
pub record HasTakenPath (place : Place) : Type 0 where
  pub problem : place.machine.problem ≡ place.level.problem
  pub steps : steps_of place.level place.path ≡ Some place.machine.state.steps
