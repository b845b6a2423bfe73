use Rattle.pm_run.proofs.StepLemmas.{starts_never_fail}
use Rattle.pm_run.proofs.laws.starts_never_fail.Goals as goal

pub returns : goal.returns
returns c = starts_never_fail
