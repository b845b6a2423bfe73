use Rattle.pm_calculus.proofs.Built.{steps_may_be_taken}
use Rattle.pm_calculus.proofs.laws.steps_may_be_taken.Goals as goal

pub returns : goal.returns
returns c = steps_may_be_taken
