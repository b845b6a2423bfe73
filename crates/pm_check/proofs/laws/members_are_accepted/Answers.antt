use Rattle.pm_check.proofs.VerdictLemmas.{member_accepted}
use Rattle.pm_check.proofs.laws.members_are_accepted.Goals as goal

pub returns : goal.returns
returns c = member_accepted
