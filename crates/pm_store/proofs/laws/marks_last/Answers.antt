use Rattle.pm_store.proofs.MarkLemmas.{marks_last}
use Rattle.pm_store.proofs.laws.marks_last.Goals as goal

pub returns : goal.returns
returns c = marks_last
