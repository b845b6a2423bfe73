use Rattle.pm_run.proofs.BackLemmas.{wants_are_reached}
use Rattle.pm_run.proofs.laws.wants_are_reached.Goals as goal

pub returns : goal.returns
returns c = wants_are_reached
