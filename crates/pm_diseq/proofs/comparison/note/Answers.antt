use Rattle.pm_diseq.proofs.NotedLemmas.{noted, same_pair}
use Rattle.pm_diseq.proofs.comparison.note.Goals as goal

pub returns : goal.returns
returns c = noted _ same_pair _ _ _ _ c.in_ok-insert.ensures.added c.in_ok-insert.ensures.keys
