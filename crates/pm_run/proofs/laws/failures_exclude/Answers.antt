use Rattle.pm_run.proofs.FailLemmas.{failures_exclude}
use Rattle.pm_run.proofs.laws.failures_exclude.Goals as goal

pub returns : goal.returns
returns c = failures_exclude
