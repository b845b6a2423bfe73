use Rattle.pm_run.proofs.BuildLemmas.{bodies_append}
use Rattle.pm_run.proofs.laws.bodies_append.Goals as goal

pub returns : goal.returns
returns c = bodies_append
