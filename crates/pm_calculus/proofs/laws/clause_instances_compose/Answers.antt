use Rattle.pm_calculus.proofs.Instances.{clause_compose}
use Rattle.pm_calculus.proofs.laws.clause_instances_compose.Goals as goal

pub returns : goal.returns
returns c = clause_compose
