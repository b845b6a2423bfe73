-- What holds of every book that events made.
use Rattle.std.specs.Prelude.{◌≡◌, ℕ, true, false, nat_lt, if◌then◌else◌, List, [], ◌∷◌, ◌++◌, length, All, Contains, Option, Some, None}
use Rattle.pm_choice.specs.declared.Bound.TheVariants.{At, End}
use Rattle.pm_choice.specs.Order.{IsWithin}
use Rattle.pm_book.specs.declared.row.RowState.{RowState}
use Rattle.pm_book.specs.declared.row.RowState.TheVariants.{Queued, Dropped}
use Rattle.pm_book.specs.declared.event.Event.{Event}
use Rattle.pm_book.specs.Rows.{Row, BookState, Tile, is_above, is_found, count_of}
use Rattle.pm_book.specs.Steps.{is_about, parts_after, MakesBook}
use Rattle.std.specs.List.{find}

-- no Queued row is above best, and each Dropped row is
abbrev pub IsPlaced : Option (List ℕ) → List ℕ → RowState → Type 0
IsPlaced best from Queued = is_above best from ≡ false
IsPlaced best from Dropped = is_above best from ≡ true
IsPlaced best from state = Unit {0}

-- a Done row that was found, whose interval holds the path
pub record HoldsPath (path : List ℕ) (row : Row) : Type 0 where
  pub found : is_found row.state ≡ true
  pub within : IsWithin row.from row.to path

-- Best lies in a row that was found. Where there is no best, no row was found.
abbrev pub HasBest : Option (List ℕ) → List Row → Type 0
HasBest None rows = All (λ row. is_found row.state ≡ false) rows
HasBest (Some path) rows = (row : Row) × Contains rows row × HoldsPath path row

-- The rows tile from the empty list to the end. Their numbers are those below the number of rows,
-- each once. No Queued row is above best, and each Dropped row is. Best lies in a row that was
-- found.
pub record AlwaysHolds (book : BookState) : Type 0 where
  pub tiled : Tile (At []) End book.rows
  pub numbered : (n : ℕ) → count_of n book.rows ≡ (if nat_lt n (length book.rows) then 1 else 0)
  pub placed : All (λ row. IsPlaced book.best row.from row.state) book.rows
  pub best : HasBest book.best book.rows

-- a list is in the interval of one of the rows, and of no other
pub record IsInOne (rows : List Row) (list : List ℕ) : Type 0 where
  pub before : List Row
  pub row : Row
  pub after : List Row
  pub is : rows ≡ before ++ row ∷ after
  pub within : IsWithin row.from row.to list
  pub not_before : All (λ other. ¬ IsWithin other.from other.to list) before
  pub not_after : All (λ other. ¬ IsWithin other.from other.to list) after

-- the rows that an event puts in the place of its row cover exactly that row's lists, each once
pub record Covers (row : Row) (parts : List Row) : Type 0 where
  pub none_lost : (list : List ℕ) → IsWithin row.from row.to list → IsInOne parts list
  pub none_gained : (list : List ℕ) → IsInOne parts list → IsWithin row.from row.to list

-- the laws of every list of events
abbrev pub EachReplayHolds : Type 0
EachReplayHolds =
    (budget : ℕ) (cuts : List (List ℕ)) (events : List Event) (book : BookState)
    → MakesBook budget cuts events book → AlwaysHolds book

abbrev pub EachListIsInOneRow : Type 0
EachListIsInOneRow =
    (budget : ℕ) (cuts : List (List ℕ)) (events : List Event) (book : BookState)
    → MakesBook budget cuts events book → (list : List ℕ) → IsInOne book.rows list

abbrev pub EachEventCoversItsRow : Type 0
EachEventCoversItsRow =
    (budget : ℕ) (cuts : List (List ℕ)) (events : List Event) (book : BookState)
    → MakesBook budget cuts events book
    → (event : Event) (cut : Option (List ℕ)) (row : Row) (parts : List Row)
    → find (is_about event) book.rows ≡ Some row → parts_after book event cut row ≡ Some parts
    → Covers row parts
