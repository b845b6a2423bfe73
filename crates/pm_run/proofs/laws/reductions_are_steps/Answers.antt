use Rattle.pm_run.proofs.StepLemmas.{reductions_are_steps}
use Rattle.pm_run.proofs.laws.reductions_are_steps.Goals as goal

pub returns : goal.returns
returns c = reductions_are_steps
