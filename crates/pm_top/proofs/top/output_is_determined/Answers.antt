use Rattle.pm_top.proofs.Determined.{output_determined}
use Rattle.pm_top.proofs.top.output_is_determined.Goals as goal

pub returns : goal.returns
returns c = output_determined
