use Rattle.pm_run.proofs.KeepLemmas.{runs_stay_in_stores}
use Rattle.pm_run.proofs.laws.runs_stay_in_stores.Goals as goal

pub returns : goal.returns
returns c = runs_stay_in_stores
