use Rattle.pm_run.proofs.StepLemmas.{extensions_are_steps}
use Rattle.pm_run.proofs.laws.extensions_are_steps.Goals as goal

pub returns : goal.returns
returns c = extensions_are_steps
