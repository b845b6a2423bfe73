use Rattle.pm_machine.proofs.Steps.{steps_build}
use Rattle.pm_machine.proofs.laws.steps_build.Goals as goal

pub returns : goal.returns
returns c = steps_build
