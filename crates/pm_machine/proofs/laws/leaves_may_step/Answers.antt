use Rattle.pm_machine.proofs.Steps.{leaves_may_step}
use Rattle.pm_machine.proofs.laws.leaves_may_step.Goals as goal

pub returns : goal.returns
returns c = leaves_may_step
