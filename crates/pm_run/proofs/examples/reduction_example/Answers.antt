use Rattle.pm_run.proofs.WorkedExamples.{reduction_example}
use Rattle.pm_run.proofs.examples.reduction_example.Goals as goal

pub returns : goal.returns
returns c = reduction_example
