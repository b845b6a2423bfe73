use Rattle.pm_store.proofs.OrderLemmas.{numbered_by_first_occurrence}
use Rattle.pm_store.proofs.laws.numbered_by_first_occurrence.Goals as goal

pub returns : goal.returns
returns c = numbered_by_first_occurrence
