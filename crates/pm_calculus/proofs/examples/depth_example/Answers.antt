use Rattle.pm_calculus.proofs.WorkedExamples.{depth_example}
use Rattle.pm_calculus.proofs.examples.depth_example.Goals as goal

pub returns : goal.returns
returns c = depth_example
