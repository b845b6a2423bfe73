use Rattle.std.proofs.Common.{◌≤◌, length}
use Rattle.pm_store.specs.Equations.{IsFree}
use Rattle.pm_store.proofs.store.tests.lengthen.Given as goal

abbrev pub invariant-links : goal.invariant-links
invariant-links l = record {
  free : IsFree l.store l.last;
  grows : length l.initial.store.cells ≤ length l.store.cells;
}
