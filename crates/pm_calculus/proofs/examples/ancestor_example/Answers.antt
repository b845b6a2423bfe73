use Rattle.pm_calculus.proofs.MoreExamples.{ancestors_count}
use Rattle.pm_calculus.proofs.examples.ancestor_example.Goals as goal

pub returns : goal.returns
returns c = ancestors_count
