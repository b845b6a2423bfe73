use Rattle.pm_run.proofs.StepLemmas.{extensions_fail}
use Rattle.pm_run.proofs.laws.extensions_fail.Goals as goal

pub returns : goal.returns
returns c = extensions_fail
