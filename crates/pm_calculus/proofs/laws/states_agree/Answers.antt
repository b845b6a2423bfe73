use Rattle.pm_calculus.proofs.Levels.{states_agree}
use Rattle.pm_calculus.proofs.laws.states_agree.Goals as goal

pub returns : goal.returns
returns c = states_agree
