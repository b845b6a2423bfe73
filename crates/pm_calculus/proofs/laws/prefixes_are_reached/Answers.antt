use Rattle.pm_calculus.proofs.Prefixes.{prefix_reached}
use Rattle.pm_calculus.proofs.laws.prefixes_are_reached.Goals as goal

pub returns : goal.returns
returns c = prefix_reached
