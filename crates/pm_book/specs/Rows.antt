-- A task book as callers see it: rows in the order of their intervals, the best path, a history.
use Rattle.std.specs.Prelude.{◌≡◌, ℕ, Bool, true, false, ◌&&◌, ◌||◌, not, ◌==◌, if◌then◌else◌, List, [], ◌∷◌, map, Option, Some, None}
use Rattle.std.specs.List.{sum_by, count_by}
use Rattle.std.specs.Ordering.{nat_cmp, is_lt}
use Rattle.std.specs.Cmp.Lexicographic.{slice_cmp}
use Rattle.pm_choice.specs.declared.Bound.{Bound}
use Rattle.pm_choice.specs.declared.Bound.TheVariants.{At, End}
use Rattle.pm_choice.specs.Order.{PrecedesBound}
use Rattle.pm_book.specs.declared.row.RowState.{RowState}
use Rattle.pm_book.specs.declared.row.RowState.TheVariants.{Queued, Running, Done}
use Rattle.pm_book.specs.declared.event.Event.{Event}

-- A row: a part of the search from a list to a bound, and how it stands.
pub record Row : Type 0 where
  pub number : ℕ
  pub from : List ℕ
  pub to : Bound
  pub state : RowState

-- A book: its rows in the order of their intervals, the best path that was found, the most work it
-- may spend, the lists that events named, in order, and the events.
pub record BookState : Type 0 where
  pub rows : List Row
  pub best : Option (List ℕ)
  pub budget : ℕ
  pub cuts : List (List ℕ)
  pub events : List Event

-- what a ticket names: the number of a row, and its interval
pub record Span : Type 0 where
  pub number : ℕ
  pub from : List ℕ
  pub to : Bound

abbrev pub span_of : Row → Span
span_of row = record { number = row.number; from = row.from; to = row.to }

-- the test whether a list precedes another in the order of choice lists
unfoldable pub is_before : List ℕ → List ℕ → Bool
is_before list other = is_lt (slice_cmp nat_cmp list other)

-- the test whether a list precedes a bound
abbrev pub is_below : List ℕ → Bound → Bool
is_below list (At bound) = is_before list bound
is_below list End = true

-- the test whether a list is in an interval
abbrev pub is_within : List ℕ → Bound → List ℕ → Bool
is_within from to list = not (is_before list from) && is_below list to

abbrev pub is_queued : RowState → Bool
is_queued Queued = true
is_queued state = false

abbrev pub is_running : RowState → Bool
is_running (Running worker) = true
is_running state = false

abbrev pub is_found : RowState → Bool
is_found (Done work found) = found
is_found state = false

-- the work of a Done row, and none of others
abbrev pub work_of : RowState → ℕ
work_of (Done work found) = work
work_of state = 0

-- a list is above best where best is there and precedes it
abbrev pub is_above : Option (List ℕ) → List ℕ → Bool
is_above None list = false
is_above (Some best) list = is_before best list

-- a row that is still to be done: Queued or Running, and not above best
abbrev pub is_open : Option (List ℕ) → Row → Bool
is_open best row = (is_queued row.state || is_running row.state) && not (is_above best row.from)

-- the work that counts of a row: that of a Done row that isn't above best
abbrev pub counted_work : Option (List ℕ) → Row → ℕ
counted_work best row = if is_above best row.from then 0 else work_of row.state

abbrev pub spent : BookState → ℕ
spent book = sum_by (counted_work book.best) book.rows

-- Rows tile from one bound to another: the first begins at the one and the last ends at the other,
-- each begins where the one before it ends, and none is empty.
abbrev pub Tile : Bound → Bound → List Row → Type 0
Tile from to [] = from ≡ to
Tile from to (row ∷ rows) =
    (from ≡ At row.from) × PrecedesBound row.from row.to × Tile row.to to rows

-- how many rows have a number
abbrev pub count_of : ℕ → List Row → ℕ
count_of number rows = count_by (λ n. n == number) (map (λ row. row.number) rows)
