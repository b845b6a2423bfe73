use Rattle.pm_check.proofs.VerdictLemmas.{determined}
use Rattle.pm_check.proofs.laws.verdicts_are_determined.Goals as goal

pub returns : goal.returns
returns c = determined
