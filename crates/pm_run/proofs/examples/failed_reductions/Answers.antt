use Rattle.pm_run.proofs.WorkedExamples.{failed_reductions}
use Rattle.pm_run.proofs.examples.failed_reductions.Goals as goal

pub returns : goal.returns
returns c = failed_reductions
