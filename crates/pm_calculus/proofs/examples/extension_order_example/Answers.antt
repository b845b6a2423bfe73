use Rattle.pm_calculus.proofs.MoreExamples.{extensions_in_order}
use Rattle.pm_calculus.proofs.examples.extension_order_example.Goals as goal

pub returns : goal.returns
returns c = extensions_in_order
