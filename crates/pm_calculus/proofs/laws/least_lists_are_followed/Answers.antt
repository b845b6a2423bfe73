use Rattle.pm_calculus.proofs.Least.{least_followed}
use Rattle.pm_calculus.proofs.laws.least_lists_are_followed.Goals as goal

pub returns : goal.returns
returns c = least_followed
