use Rattle.pm_store.proofs.MarkLemmas.{growth_is_later}
use Rattle.pm_store.proofs.laws.growth_is_later.Goals as goal

pub returns : goal.returns
returns c = growth_is_later
