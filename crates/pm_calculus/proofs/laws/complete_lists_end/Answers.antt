use Rattle.pm_calculus.proofs.Growth.{complete_ends}
use Rattle.pm_calculus.proofs.laws.complete_lists_end.Goals as goal

pub returns : goal.returns
returns c = complete_ends
