-- The events of a book: each is a step from one book to the next.
use Rattle.std.specs.Prelude.{◌≡◌, ℕ, ◌==◌, nat_le, Bool, true, false, ◌&&◌, ◌||◌, if◌then◌else◌, cond, List, [], ◌∷◌, ◌++◌, map, length, Option, Some, None, option_map, slice_get}
use Rattle.std.specs.List.{find}
use Rattle.std.specs.Option.{option_and_then, option_to_list}
use Rattle.pm_choice.specs.declared.Bound.TheVariants.{At, End}
use Rattle.pm_book.specs.declared.row.RowState.{RowState}
use Rattle.pm_book.specs.declared.row.RowState.TheVariants.{Queued, Running, Done, Dropped}
use Rattle.pm_book.specs.declared.event.Event.{Event}
use Rattle.pm_book.specs.declared.event.Event.TheVariants.{Took, Claimed, Split, Returned, Closed, Found}
use Rattle.pm_book.specs.Rows.{Row, BookState, is_before, is_below, is_within, is_queued, is_running, is_above, spent}

-- a new book: one row, the whole interval, Queued
abbrev pub new_book : ℕ → BookState
new_book budget = record {
  rows = record { number = 0; from = []; to = End; state = Queued } ∷ [];
  best = None;
  budget = budget;
  cuts = [];
  events = [];
}

-- a value where a test holds
abbrev pub where_true : {A : Type 0} → Bool → A → Option A
where_true test value = if test then Some value else None

abbrev pub with_state : RowState → Row → Row
with_state state row = record row { state = state }

-- the part of a row below a cut keeps its number
abbrev pub part_below : List ℕ → RowState → Row → Row
part_below cut state row = record row { to = At cut; state = state }

-- the part of a row from a cut on has a number of its own
abbrev pub part_from : List ℕ → ℕ → Row → Row
part_from cut number row = record { number = number; from = cut; to = row.to; state = Queued }

-- a Queued row that is above best is Dropped
abbrev pub drop_above : Option (List ℕ) → Row → Row
drop_above best row =
    if is_queued row.state && is_above best row.from then with_state Dropped row else row

-- a row that ends is Dropped where it is above best
abbrev pub ended : Option (List ℕ) → Row → List Row → List Row
ended best row kept = if is_above best row.from then with_state Dropped row ∷ [] else kept

-- what a return leaves of its row: below the cut it is done, and the rest is a row to take
abbrev pub returned : List ℕ → ℕ → ℕ → Row → List Row
returned cut number work row =
    if is_before row.from cut
    then part_below cut (Done work false) row ∷ part_from cut number row ∷ []
    else with_state Queued row ∷ []

-- The cut of an event is the next one of the book.
abbrev pub is_next_cut : BookState → ℕ → Bool
is_next_cut book cut = cut == length book.cuts

-- whether a row may be split at a list
abbrev pub may_split : List ℕ → Row → Bool
may_split cut row = is_running row.state && (is_before row.from cut && is_below cut row.to)

-- whether a row may be returned at a list, with a work
abbrev pub may_return : List ℕ → ℕ → Row → Bool
may_return cut work row =
    is_running row.state && (is_within row.from row.to cut && (is_before row.from cut || work == 0))

-- whether a path may be found in a row
abbrev pub may_find : List ℕ → Row → Bool
may_find path row = is_running row.state && is_within row.from row.to path

-- Where an event may happen to a row, the rows that stand in its place afterwards. `cut` is the
-- list that the event names, where it names one.
abbrev pub parts_after : BookState → Event → Option (List ℕ) → Row → Option (List Row)
parts_after book (Took worker number) None row =
    where_true (row.number == number && nat_le (spent book) book.budget)
    (with_state (Running worker) row ∷ [])
parts_after book (Claimed worker number) None row =
    where_true (is_queued row.state) (with_state (Running worker) row ∷ [])
parts_after book (Split number place) (Some cut) row =
    where_true (is_next_cut book place && may_split cut row)
    (part_below cut row.state row
    ∷ drop_above book.best (part_from cut (length book.rows) row) ∷ [])
parts_after book (Returned number place work) (Some cut) row =
    where_true (is_next_cut book place && may_return cut work row)
    (ended book.best row (returned cut (length book.rows) work row))
parts_after book (Closed number work) None row =
    where_true (is_running row.state) (ended book.best row (with_state (Done work false) row ∷ []))
parts_after book (Found number place work) (Some path) row =
    where_true (is_next_cut book place && may_find path row)
    (ended book.best row (with_state (Done work true) row ∷ []))
parts_after book event cut row = None

-- The row that an event is about is the first that passes this test: a take is about the first
-- Queued row, and each other event about the row that it names.
abbrev pub is_about : Event → Row → Bool
is_about (Took worker number) row = is_queued row.state
is_about (Claimed worker number) row = row.number == number
is_about (Split number place) row = row.number == number
is_about (Returned number place work) row = row.number == number
is_about (Closed number work) row = row.number == number
is_about (Found number place work) row = row.number == number

-- the path that a Found makes best: none where its row is above best
abbrev pub new_best : BookState → Event → Option (List ℕ) → Row → Option (List ℕ)
new_best book (Found number place work) (Some path) row =
    if is_above book.best row.from then None else Some path
new_best book event cut row = None

-- with a new best path each Queued row above it is dropped
abbrev pub with_best : Option (List ℕ) → BookState → BookState
with_best None book = book
with_best (Some path) book =
    record book { rows = map (drop_above (Some path)) book.rows; best = Some path }

-- the first row that passes a test gives way to other rows
abbrev pub replace_first : (Row → Bool) → List Row → List Row → List Row
replace_first test parts [] = []
replace_first test parts (row ∷ rows) =
    cond (test row) (parts ++ rows) (row ∷ replace_first test parts rows)

-- the book with other rows, an event more and the cut that it names
abbrev pub recorded : BookState → Event → Option (List ℕ) → List Row → BookState
recorded book event cut rows = record book {
  rows = rows;
  cuts = book.cuts ++ option_to_list cut;
  events = book.events ++ event ∷ [];
}

-- what an event makes of a book where other rows stand in the place of its row
abbrev pub with_parts : BookState → Event → Option (List ℕ) → Row → List Row → BookState
with_parts book event cut row parts =
    with_best (new_best book event cut row)
    (recorded book event cut (replace_first (is_about event) parts book.rows))

-- what an event makes of a book and of its row
abbrev pub step_at : BookState → Event → Option (List ℕ) → Row → Option BookState
step_at book event cut row =
    option_map (with_parts book event cut row) (parts_after book event cut row)

-- The next book after an event; none, where the event is no step from this book.
abbrev pub step : BookState → Event → Option (List ℕ) → Option BookState
step book event cut = option_and_then (step_at book event cut) (find (is_about event) book.rows)

-- the list that an event names, among the cuts
abbrev pub cut_of : List (List ℕ) → Event → Option (List ℕ)
cut_of cuts (Split number place) = slice_get cuts place
cut_of cuts (Returned number place work) = slice_get cuts place
cut_of cuts (Found number place work) = slice_get cuts place
cut_of cuts event = None

abbrev pub next : List (List ℕ) → Option BookState → Event → Option BookState
next cuts None event = None
next cuts (Some book) event = step book event (cut_of cuts event)

-- the book after a list of events, where each is a step from the book of those before it
abbrev pub replayed : List (List ℕ) → List Event → Option BookState → Option BookState
replayed cuts [] book = book
replayed cuts (event ∷ events) book = replayed cuts events (next cuts book event)

-- events make a book: they are steps from a new book with this budget to it
abbrev pub MakesBook : ℕ → List (List ℕ) → List Event → BookState → Type 0
MakesBook budget cuts events book = replayed cuts events (Some (new_book budget)) ≡ Some book

-- a book is the replay of its own history
abbrev pub IsReplay : BookState → Type 0
IsReplay book = MakesBook book.budget book.cuts book.events book
