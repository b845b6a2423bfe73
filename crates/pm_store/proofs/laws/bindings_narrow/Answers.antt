use Rattle.pm_store.proofs.SolutionLemmas.{bindings_narrow}
use Rattle.pm_store.proofs.laws.bindings_narrow.Goals as goal

pub returns : goal.returns
returns c = bindings_narrow
