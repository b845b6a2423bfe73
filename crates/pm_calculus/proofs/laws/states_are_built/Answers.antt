use Rattle.pm_calculus.proofs.Built.{states_are_built}
use Rattle.pm_calculus.proofs.laws.states_are_built.Goals as goal

pub returns : goal.returns
returns c = states_are_built
