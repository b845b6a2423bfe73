use Rattle.pm_calculus.proofs.Instances.{filled_instances}
use Rattle.pm_calculus.proofs.laws.filled_instances.Goals as goal

pub returns : goal.returns
returns c = filled_instances
