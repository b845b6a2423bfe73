use Rattle.std.proofs.Common.{◌≡◌, Some, map, take}
use Rattle.pm_store.specs.Resolved.{row_of}
use Rattle.pm_store.proofs.resolver.Resolver.rows_of.Given as goal

abbrev pub invariant-cells : goal.invariant-cells
invariant-cells l = map Some l.rows.items ≡ map (row_of l.self) (take l.cell-index l.cells)
