use Rattle.std.proofs.Common.{take}
use Rattle.std.specs.Prelude.{All}
use Rattle.pm_store.specs.Trees.{tree, Occurs}
use Rattle.pm_diseq.proofs.trials.lacks_each.Given as goal

abbrev pub invariant-cells : goal.invariant-cells
invariant-cells l = All (λ c. ¬ Occurs l.v (tree l.store c)) (take l.cell-index l.cells)
