use Rattle.pm_run.proofs.BuildLemmas.{starts_append}
use Rattle.pm_run.proofs.laws.starts_append.Goals as goal

pub returns : goal.returns
returns c = starts_append
