use Rattle.std.proofs.Common.{take}
use Rattle.std.specs.Prelude.{All}
use Rattle.pm_unify.proofs.OccurrenceLemmas.{Lacks}
use Rattle.pm_unify.proofs.occurrence.occurs_at_once.Given as goal

abbrev pub invariant-cells : goal.invariant-cells
invariant-cells l = All (Lacks l.store l.v) (take l.cell-index l.cells)
