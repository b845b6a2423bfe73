use Rattle.pm_top.proofs.Accepted.{proofs_accepted}
use Rattle.pm_top.proofs.top.proofs_are_accepted.Goals as goal

pub returns : goal.returns
returns c = proofs_accepted
