use Rattle.std.proofs.Common.{◌≡◌}
use Rattle.std.specs.List.{range_with_len}
use Rattle.pm_run.proofs.instructions.cells_from.Given as goal

abbrev pub invariant-places : goal.invariant-places
invariant-places l = l.cells.items ≡ range_with_len l.first l.place
