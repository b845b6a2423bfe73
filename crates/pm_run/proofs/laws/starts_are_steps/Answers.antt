use Rattle.pm_run.proofs.StepLemmas.{starts_are_steps}
use Rattle.pm_run.proofs.laws.starts_are_steps.Goals as goal

pub returns : goal.returns
returns c = starts_are_steps
