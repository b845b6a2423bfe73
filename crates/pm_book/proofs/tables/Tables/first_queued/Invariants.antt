use Rattle.std.proofs.Common.{◌≡◌, false, take}
use Rattle.std.specs.Prelude.{All}
use Rattle.pm_book.specs.Rows.{is_queued}
use Rattle.pm_book.proofs.tables.Tables.first_queued.Given as goal

abbrev pub invariant-loop-place : goal.invariant-loop-place
invariant-loop-place l = All (λ row. is_queued row.state ≡ false) (take l.place l.self.rows.items)
