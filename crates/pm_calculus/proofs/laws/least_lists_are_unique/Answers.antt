use Rattle.pm_calculus.proofs.Least.{least_unique}
use Rattle.pm_calculus.proofs.laws.least_lists_are_unique.Goals as goal

pub returns : goal.returns
returns c = least_unique
