use Rattle.pm_run.proofs.WorkedExamples.{failure_example}
use Rattle.pm_run.proofs.examples.failure_example.Goals as goal

pub returns : goal.returns
returns c = failure_example
