use Rattle.pm_store.proofs.MarkLemmas.{marks_restore}
use Rattle.pm_store.proofs.laws.marks_restore.Goals as goal

pub returns : goal.returns
returns c = marks_restore
