use Rattle.pm_run.proofs.GroundLemmas.{ground_cells_last}
use Rattle.pm_run.proofs.laws.ground_cells_last.Goals as goal

pub returns : goal.returns
returns c = ground_cells_last
