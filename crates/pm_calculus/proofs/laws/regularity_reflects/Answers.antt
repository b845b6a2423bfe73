use Rattle.pm_calculus.proofs.Instances.{regular_reflects}
use Rattle.pm_calculus.proofs.laws.regularity_reflects.Goals as goal

pub returns : goal.returns
returns c = regular_reflects
