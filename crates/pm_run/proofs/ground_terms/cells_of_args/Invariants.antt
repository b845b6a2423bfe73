use Rattle.std.proofs.Common.{List, take}
use Rattle.pm_logic.specs.Term.{Term}
use Rattle.pm_store.specs.Equations.{Equations}
use Rattle.pm_run.specs.Inside.Ground.{AreGroundCells, AreCellsOf}
use Rattle.pm_run.proofs.ground_terms.cells_of_args.Given as goal

-- the arguments so far have these cells
abbrev pub invariant-args-2 : goal.invariant-args-2
invariant-args-2 l =
    (terms : List Term) (s : Equations) → AreGroundCells terms l.cells s
    → AreCellsOf terms s (take l.arg-index l.args) l.found.items
