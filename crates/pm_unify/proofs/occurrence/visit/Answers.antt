use Rattle.pm_unify.proofs.NoteLemmas.{notes, same_cell}
use Rattle.pm_unify.proofs.occurrence.visit.Goals as goal

pub returns : goal.returns
returns c = notes _ same_cell _ _ _ _ c.in_ok-insert.ensures.added c.in_ok-insert.ensures.keys
