use Rattle.pm_store.proofs.TreeLemmas.{free_variables_stand}
use Rattle.pm_store.proofs.laws.free_variables_stand.Goals as goal

pub returns : goal.returns
returns c = free_variables_stand
