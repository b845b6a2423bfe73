use Rattle.std.proofs.Common.{◌≡◌, ◌++◌}
use Rattle.pm_store.specs.Inside.Pending.{visits}
use Rattle.pm_store.proofs.resolver.push_visits.Given as goal

abbrev pub invariant-cells : goal.invariant-cells
invariant-cells l = l.pending.items ++ visits l.cell-iterator.iter.rest.now ≡ l.fn.pending.items ++ visits l.cells
