use Rattle.std.proofs.Common.{◌≡◌, ◌++◌}
use Rattle.std.specs.List.{zip}
use Rattle.std.specs.Iterator.Adapters.{zip_first, zip_second}
use Rattle.std.specs.Slice.Iter.{iter_rest}
use Rattle.pm_diseq.proofs.comparison.add_places.Given as goal

abbrev pub invariant-places : goal.invariant-places
invariant-places l = l.pending.items ++ zip (iter_rest (zip_first l.x-iterator)) (iter_rest (zip_second l.x-iterator)) ≡ l.initial.pending.items ++ zip l.left l.right
