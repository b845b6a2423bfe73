use Rattle.std.proofs.Common.{◌<◌, length}
use Rattle.std.specs.Prelude.{All}
use Rattle.pm_diseq.proofs.trials.random_cells.Given as goal

abbrev pub invariant-cells : goal.invariant-cells
invariant-cells l = All (λ c. c < length l.store.cells) l.cells.items × (0 < length l.cells.items)
