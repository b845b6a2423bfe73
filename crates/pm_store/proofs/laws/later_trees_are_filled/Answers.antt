use Rattle.pm_store.proofs.FreeLemmas.{later_trees}
use Rattle.pm_store.proofs.laws.later_trees_are_filled.Goals as goal

pub returns : goal.returns
returns c = later_trees
