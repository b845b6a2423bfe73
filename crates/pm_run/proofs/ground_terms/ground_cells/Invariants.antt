use Rattle.std.proofs.Common.{◌≡◌, length}
use Rattle.pm_store.specs.Marks.{IsLater}
use Rattle.pm_run.specs.Inside.Ground.{AreGroundCells}
use Rattle.pm_run.proofs.ground_terms.ground_cells.Given as goal

-- the rows so far have their cells
abbrev pub invariant-rows : goal.invariant-rows
invariant-rows l = record {
  count : length l.cells.items ≡ l.row;
  cells : AreGroundCells l.terms l.cells.items l.store;
  later : IsLater l.fn.store l.store;
}
