use Rattle.pm_diseq.proofs.StandingLemmas.{pools_stood_at_marks}
use Rattle.pm_diseq.proofs.laws.pools_stood_at_marks.Goals as goal

pub returns : goal.returns
returns c = pools_stood_at_marks
