use Rattle.pm_calculus.proofs.MoreExamples.{reductions_in_order}
use Rattle.pm_calculus.proofs.examples.reduction_order_example.Goals as goal

pub returns : goal.returns
returns c = reductions_in_order
