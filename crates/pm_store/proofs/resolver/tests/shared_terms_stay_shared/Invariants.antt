use Rattle.std.proofs.Common.{◌<◌, length}
use Rattle.pm_store.proofs.resolver.tests.shared_terms_stay_shared.Given as goal

abbrev pub invariant-doublings : goal.invariant-doublings
invariant-doublings g l = l.top < length l.store.cells
