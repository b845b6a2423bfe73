use Rattle.pm_diseq.proofs.StandingLemmas.{pools_stand_later}
use Rattle.pm_diseq.proofs.laws.pools_stand_later.Goals as goal

pub returns : goal.returns
returns c = pools_stand_later
