use Rattle.pm_store.proofs.BoundLemmas.{bound_variables_stay}
use Rattle.pm_store.proofs.laws.bound_variables_stay.Goals as goal

pub returns : goal.returns
returns c = bound_variables_stay
