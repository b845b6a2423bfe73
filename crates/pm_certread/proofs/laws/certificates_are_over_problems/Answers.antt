use Rattle.pm_certread.proofs.OverLemmas.{over_problem}
use Rattle.pm_certread.proofs.laws.certificates_are_over_problems.Goals as goal

pub returns : goal.returns
returns c = over_problem
