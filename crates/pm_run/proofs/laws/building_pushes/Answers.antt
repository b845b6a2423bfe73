use Rattle.pm_run.proofs.BuildLemmas.{building_pushes}
use Rattle.pm_run.proofs.laws.building_pushes.Goals as goal

pub returns : goal.returns
returns c = building_pushes
