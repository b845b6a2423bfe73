use Rattle.pm_store.proofs.SolutionLemmas.{other_cells_are_open}
use Rattle.pm_store.proofs.laws.other_cells_are_open.Goals as goal

pub returns : goal.returns
returns c = other_cells_are_open
