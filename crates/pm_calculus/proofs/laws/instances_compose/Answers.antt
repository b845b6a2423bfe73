use Rattle.pm_calculus.proofs.Instances.{compose}
use Rattle.pm_calculus.proofs.laws.instances_compose.Goals as goal

pub returns : goal.returns
returns c = compose
