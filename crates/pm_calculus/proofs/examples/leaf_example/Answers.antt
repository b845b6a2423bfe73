use Rattle.pm_calculus.proofs.WorkedExamples.{leaf_counts}
use Rattle.pm_calculus.proofs.examples.leaf_example.Goals as goal

pub returns : goal.returns
returns c = leaf_counts
