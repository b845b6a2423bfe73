use Rattle.std.proofs.Common.{◌<◌, length}
use Rattle.pm_unify.proofs.unification.tests.rounds_leave_the_store_as_it_was.Given as goal

abbrev pub invariant-rounds : goal.invariant-rounds
invariant-rounds g l = record {
  left : l.left < length l.store.cells;
  right : l.right < length l.store.cells;
}
