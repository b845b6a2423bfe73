-- What tables count of their rows.
use Rattle.std.specs.Prelude.{◌≡◌, ℕ, ◌+◌, ◌-◌, ◌<◌, ◌≤◌, ◌^◌, Bool, ◌&&◌, ◌||◌, not, if◌then◌else◌, List, Option}
use Rattle.std.specs.List.{sum_by, count_by}
use Rattle.pm_book.specs.declared.row.RowState.{RowState}
use Rattle.pm_book.specs.declared.counts.Counts.{Counts}
use Rattle.pm_book.specs.Rows.{Row, is_running, is_queued, work_of, is_open, counted_work}

-- the work that counts of a row, and whether it is still to be done, given whether it is above best
abbrev pub work_unless : Bool → RowState → ℕ
work_unless above state = if above then 0 else work_of state

abbrev pub open_unless : Bool → RowState → Bool
open_unless above state = (is_queued state || is_running state) && not above

-- the counts of one row, given whether it is above best
abbrev pub counts_of : Bool → RowState → Counts
counts_of above state = record {
  running = if is_running state then 1 else 0;
  queued = if is_queued state then 1 else 0;
  remaining = if open_unless above state then 1 else 0;
  spent = work_unless above state;
}

-- counts are those of rows
pub record AreCounted (counts : Counts) (best : Option (List ℕ)) (rows : List Row) : Type 0 where
  pub running : counts.running ≡ count_by (λ row. is_running row.state) rows
  pub queued : counts.queued ≡ count_by (λ row. is_queued row.state) rows
  pub remaining : counts.remaining ≡ count_by (is_open best) rows
  pub spent : counts.spent ≡ sum_by (counted_work best) rows

-- counts of one row at most
pub record AreOfOne (counts : Counts) : Type 0 where
  pub running : counts.running ≤ 1
  pub queued : counts.queued ≤ 1
  pub remaining : counts.remaining ≤ 1
  pub spent : counts.spent < 2 ^ 64

-- counts to which those of one row more can be added
pub record AreSmall (counts : Counts) : Type 0 where
  pub running : counts.running + 1 < 2 ^ 64
  pub queued : counts.queued + 1 < 2 ^ 64
  pub remaining : counts.remaining + 1 < 2 ^ 64
  pub spent : counts.spent + 2 ^ 64 ≤ 2 ^ 128

-- counts of some rows, and of all
pub record ArePart (some all : Counts) : Type 0 where
  pub running : some.running ≤ all.running
  pub queued : some.queued ≤ all.queued
  pub remaining : some.remaining ≤ all.remaining
  pub spent : some.spent ≤ all.spent

-- the counts of some rows and others together
abbrev pub both : Counts → Counts → Counts
both some others = record {
  running = some.running + others.running;
  queued = some.queued + others.queued;
  remaining = some.remaining + others.remaining;
  spent = some.spent + others.spent;
}

-- the counts where the rows after a find are above best from then on: the Queued ones are dropped
abbrev pub forgets : Counts → Counts → Counts
forgets all after = record {
  running = all.running;
  queued = all.queued - after.queued;
  remaining = all.remaining - after.remaining;
  spent = all.spent - after.spent;
}
