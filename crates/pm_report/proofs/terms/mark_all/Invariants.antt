use Rattle.std.proofs.Common.{◌≡◌, ◌||◌, ℕ, length, take}
use Rattle.pm_report.specs.Inside.Marks.{has_mark, is_row_among}
use Rattle.pm_report.proofs.terms.mark_all.Given as goal

abbrev pub invariant-loop-row : goal.invariant-loop-row
invariant-loop-row l =
    (length l.marks.items ≡ length l.fn.marks.items)
    × ((row : ℕ) → has_mark l.marks.items row ≡ (is_row_among row (take l.row-index l.rows) || has_mark l.fn.marks.items row))
