use Rattle.pm_store.proofs.TreeLemmas.{trees_solve}
use Rattle.pm_store.proofs.laws.trees_solve.Goals as goal

pub returns : goal.returns
returns c = trees_solve
