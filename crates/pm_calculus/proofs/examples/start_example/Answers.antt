use Rattle.pm_calculus.proofs.MoreExamples.{starts_by_rule}
use Rattle.pm_calculus.proofs.examples.start_example.Goals as goal

pub returns : goal.returns
returns c = starts_by_rule
