use Rattle.pm_store.proofs.FreeLemmas.{trees_are_of_free_variables}
use Rattle.pm_store.proofs.laws.trees_are_of_free_variables.Goals as goal

pub returns : goal.returns
returns c = trees_are_of_free_variables
