use Rattle.pm_calculus.proofs.Faces.{labellings_show}
use Rattle.pm_calculus.proofs.laws.labellings_show_nodes.Goals as goal

pub returns : goal.returns
returns c = labellings_show
