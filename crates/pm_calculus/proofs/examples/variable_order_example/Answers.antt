use Rattle.pm_calculus.proofs.MoreExamples.{variables_in_order}
use Rattle.pm_calculus.proofs.examples.variable_order_example.Goals as goal

pub returns : goal.returns
returns c = variables_in_order
