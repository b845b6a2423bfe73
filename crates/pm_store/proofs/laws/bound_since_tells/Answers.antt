use Rattle.pm_store.proofs.BoundLemmas.{bound_since_tells}
use Rattle.pm_store.proofs.laws.bound_since_tells.Goals as goal

pub returns : goal.returns
returns c = bound_since_tells
