use Rattle.pm_run.proofs.StepLemmas.{reductions_fail}
use Rattle.pm_run.proofs.laws.reductions_fail.Goals as goal

pub returns : goal.returns
returns c = reductions_fail
