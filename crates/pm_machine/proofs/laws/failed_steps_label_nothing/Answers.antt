use Rattle.pm_machine.proofs.Steps.{failed_steps_label_nothing}
use Rattle.pm_machine.proofs.laws.failed_steps_label_nothing.Goals as goal

pub returns : goal.returns
returns c = failed_steps_label_nothing
