use Rattle.pm_calculus.proofs.ListsToTrees.{labelling_follows}
use Rattle.pm_calculus.proofs.laws.labellings_follow.Goals as goal

pub returns : goal.returns
returns c = labelling_follows
