use Rattle.pm_store.proofs.TreeLemmas.{trees_are_general}
use Rattle.pm_store.proofs.laws.trees_are_general.Goals as goal

pub returns : goal.returns
returns c = trees_are_general
