use Rattle.pm_store.proofs.MarkLemmas.{later_is_transitive}
use Rattle.pm_store.proofs.laws.later_is_transitive.Goals as goal

pub returns : goal.returns
returns c = later_is_transitive
