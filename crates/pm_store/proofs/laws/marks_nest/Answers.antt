use Rattle.pm_store.proofs.MarkLemmas.{marks_nest}
use Rattle.pm_store.proofs.laws.marks_nest.Goals as goal

pub returns : goal.returns
returns c = marks_nest
