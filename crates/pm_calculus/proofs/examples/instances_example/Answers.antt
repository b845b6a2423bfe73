use Rattle.pm_calculus.proofs.MoreExamples.{instances_count}
use Rattle.pm_calculus.proofs.examples.instances_example.Goals as goal

pub returns : goal.returns
returns c = instances_count
