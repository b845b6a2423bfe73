use Rattle.std.proofs.Common.{ℕ, length, ap, sym, subst, arith}
use Rattle.std.proofs.lemmas.List.{length_push}
use Rattle.pm_logic.specs.Term.{tree_at}
use Rattle.pm_store.proofs.MarkLemmas.{later_is_transitive}
use Rattle.pm_run.specs.Inside.Ground.{IsGroundCell}
use Rattle.pm_run.proofs.GroundLemmas.{cells_more, cells_done}
use Rattle.pm_run.proofs.ground_terms.ground_cells.Goals as goal

pub returns-in_err-cell-clause-later : goal.returns-in_err-cell-clause-later
returns-in_err-cell-clause-later c = later_is_transitive _ _ _ c.rows.invariant.later c.ground_cell.ensures.later

pub returns-in_err-push-clause-later : goal.returns-in_err-push-clause-later
returns-in_err-push-clause-later c = later_is_transitive _ _ _ c.rows.invariant.later c.ground_cell.ensures.later

pub rows-preserved : goal.rows-preserved
rows-preserved c =
    let row = c.rows.row in
    let its : IsGroundCell c.ground_cell.new.store (tree_at c.args.terms.now row) c.in_ok-cell.cell =
    subst (λ (n : ℕ). IsGroundCell c.ground_cell.new.store (tree_at c.args.terms.now n) c.in_ok-cell.cell) c.id.ensures c.in_ok-cell.ensures.cell in
    record {
      count = omega (arith, ap length c.in_ok-push.ensures.items, length_push c.rows.cells.items c.in_ok-cell.cell, c.rows.invariant.count);
      cells = cells_more c.args.terms.now c.rows.store c.ground_cell.new.store c.rows.cells.items _ row c.in_ok-cell.cell c.in_ok-cell.ensures.later
          c.rows.invariant.cells (sym c.rows.invariant.count) its c.in_ok-push.ensures.items;
      later = later_is_transitive _ _ _ c.rows.invariant.later c.in_ok-cell.ensures.later;
    }

pub returns-clause-cells : goal.returns-clause-cells
returns-clause-cells c =
    cells_done c.args.terms.now c.rows.store c.rows.cells.items c.rows.row c.rows.invariant.count (omega (arith, c.rows-test.false, c.len-row-end.ensures.count))
    c.rows.invariant.cells
