use Rattle.pm_unify.proofs.NoteLemmas.{notes, same_pair}
use Rattle.pm_unify.proofs.pairs.take.Goals as goal

pub returns : goal.returns
returns c = notes _ same_pair _ _ _ _ c.in_ok-insert.ensures.added c.in_ok-insert.ensures.keys
