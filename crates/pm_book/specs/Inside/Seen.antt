-- How the tables of a book stand for its rows, and what they keep.
use Rattle.std.specs.Prelude.{◌≡◌, ℕ, ◌+◌, ◌*◌, ◌^◌, ◌≤◌, Bool, true, false, ◌==◌, if◌then◌else◌, List, [], ◌∷◌, ◌++◌, map, length, take, drop, Option, Some, option_map, slice_get, slice_index_or, All, vec_len, vec_capacity}
use Rattle.std.specs.Option.{option_to_list}
use Rattle.pm_book.specs.declared.row.RowState.{RowState}
use Rattle.pm_book.specs.declared.row.RowState.TheVariants.{Queued, Done, Dropped}
use Rattle.pm_book.specs.declared.row.BookRow.{BookRow}
use Rattle.pm_book.specs.declared.event.Event.{Event}
use Rattle.pm_book.specs.declared.tables.Tables.{Tables}
use Rattle.pm_book.specs.declared.tables.Spot.{Spot}
use Rattle.pm_book.specs.Steps.{IsReplay}
use Rattle.pm_book.specs.Rows.{BookState, Span, span_of, is_running, is_queued}
use Rattle.pm_book.specs.Inside.Counted.{AreCounted}
use Rattle.pm_book.specs.Shown.{row_seen, IsCutPlace, HasPlaces}

-- the best path, from its place among the cuts
abbrev pub best_seen : List (List ℕ) → Option ℕ → Option (List ℕ)
best_seen cuts best = option_map (λ place. slice_index_or cuts place []) best

-- the book that tables stand for
abbrev pub seen : Tables → BookState
seen t = record {
  rows = map (row_seen t.cuts.items) t.rows.items;
  best = best_seen t.cuts.items t.best;
  budget = t.budget;
  cuts = t.cuts.items;
  events = t.events.items;
}

-- 1 of a Running row, 0 of others
abbrev pub running_of : RowState → ℕ
running_of state = if is_running state then 1 else 0

-- there is room for so many rows, cuts, events and numbers more
pub record HasRoom (t : Tables) (more : ℕ) : Type 0 where
  pub rows : vec_len t.rows + more ≤ vec_capacity t.rows
  pub cuts : vec_len t.cuts + more ≤ vec_capacity t.cuts
  pub events : vec_len t.events + more ≤ vec_capacity t.events
  pub lowers : vec_len t.lowers + more ≤ vec_capacity t.lowers

-- each number has the lower end of its row
pub record HasLowers (lowers : List (Option ℕ)) (rows : List BookRow) : Type 0 where
  pub as_many : length lowers ≡ length rows
  pub each : All (λ row. slice_get lowers row.number ≡ Some row.from) rows

-- What tables keep: the places of rows and of best are among the cuts, and each number has its
-- lower end. The rows are counted, and no event adds more than two works. No row before the hint
-- is Queued. There is room for one end of each Running row.
pub record AreKept (t : Tables) : Type 0 where
  pub places : All (HasPlaces (length t.cuts.items)) t.rows.items
  pub best : IsCutPlace (length t.cuts.items) t.best
  pub lowers : HasLowers t.lowers.items t.rows.items
  pub counted : AreCounted t.counts (seen t).best (seen t).rows
  pub few : t.counts.spent ≤ length t.events.items * 2 ^ 65
  pub hint : All (λ row. is_queued row.state ≡ false) (take t.hint t.rows.items)
  pub room : HasRoom t t.counts.running

-- a row that is put in among so many: it has the next number, and doesn't run
pub record IsNewRow (count : ℕ) (row : BookRow) : Type 0 where
  pub number : row.number ≡ count
  pub rests : is_running row.state ≡ false

-- a spot is the first row that passes a test, and its place
pub record IsFirstSpot (test : BookRow → Bool) (rows : List BookRow) (spot : Spot) : Type 0 where
  pub there : slice_get rows spot.place ≡ Some spot.row
  pub passes : test spot.row ≡ true
  pub first : All (λ row. test row ≡ false) (take spot.place rows)

-- rows took the place of a row, and an event was recorded with the list that it names
pub record HasPut (old new : Tables) (place : ℕ) (rows : List BookRow) (cut : Option (List ℕ))
    (event : Event) : Type 0 where
  pub rows_are :
      new.rows.items ≡ take place old.rows.items ++ (rows ++ drop (place + 1) old.rows.items)
  pub cuts_are : new.cuts.items ≡ old.cuts.items ++ option_to_list cut
  pub events_are : new.events.items ≡ old.events.items ++ event ∷ []
  pub best_is : new.best ≡ old.best
  pub budget_is : new.budget ≡ old.budget

-- a Queued row is Dropped
abbrev pub dropped : BookRow → BookRow
dropped row = if is_queued row.state then record row { state = Dropped } else row

-- the state of a new row, given whether it is above best
abbrev pub queued_unless : Bool → RowState
queued_unless above = if above then Dropped else Queued

-- the state of a row that ends, given whether it is above best
abbrev pub done_unless : Bool → ℕ → Bool → RowState
done_unless above work found = if above then Dropped else Done work found

-- a spot is that of a Running row, the first of its number
pub record IsRunningSpot (t : Tables) (spot : Spot) : Type 0 where
  pub first : IsFirstSpot (λ row. row.number == spot.row.number) t.rows.items spot
  pub runs : is_running spot.row.state ≡ true

-- a spot is that of a ticket's row
pub record IsSpotOf (t : Tables) (ticket : Span) (spot : Spot) : Type 0 where
  pub running : IsRunningSpot t spot
  pub is : span_of (row_seen t.cuts.items spot.row) ≡ ticket

-- what holds of the tables of a book: they are kept, and stand for the replay of their own history
pub record AreSoundTables (t : Tables) : Type 0 where
  pub kept : AreKept t
  pub replay : IsReplay (seen t)
