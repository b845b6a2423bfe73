use Rattle.pm_store.proofs.MarkLemmas.{marks_keep}
use Rattle.pm_store.proofs.laws.marks_keep.Goals as goal

pub returns : goal.returns
returns c = marks_keep
