use Rattle.pm_store.proofs.CycleLemmas.{cycles_have_no_solution}
use Rattle.pm_store.proofs.laws.cycles_have_no_solution.Goals as goal

pub returns : goal.returns
returns c = cycles_have_no_solution
