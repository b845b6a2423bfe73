use Rattle.pm_run.proofs.StepLemmas.{steps_begin_in_stores}
use Rattle.pm_run.proofs.laws.steps_begin_in_stores.Goals as goal

pub returns : goal.returns
returns c = steps_begin_in_stores
