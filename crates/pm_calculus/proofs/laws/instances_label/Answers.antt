use Rattle.pm_calculus.proofs.Instances.{instance_labels}
use Rattle.pm_calculus.proofs.laws.instances_label.Goals as goal

pub returns : goal.returns
returns c = instance_labels
