use Rattle.std.proofs.Common.{◌<◌, ◌≤◌, length}
use Rattle.pm_diseq.proofs.trials.tower.Given as goal

abbrev pub invariant-floors : goal.invariant-floors
invariant-floors l = record {
  grows : length l.initial.store.cells ≤ length l.store.cells;
  within : l.top < length l.store.cells;
}
