-- What the works of a book's rows say, where each event tells the truth about what is counted.
use Rattle.std.specs.Prelude.{◌≡◌, ℕ, ◌<◌, ◌≤◌, ◌⊎◌, true, false, List, [], ◌∷◌, Option, Some, MatchOption}
use Rattle.std.specs.List.{find, sum_by}
use Rattle.pm_choice.specs.declared.Bound.TheVariants.{At, End}
use Rattle.pm_choice.specs.Entries.{Entries, Closes, Finds, HasMore}
use Rattle.pm_book.specs.declared.row.RowState.{RowState}
use Rattle.pm_book.specs.declared.row.RowState.TheVariants.{Done}
use Rattle.pm_book.specs.declared.event.Event.{Event}
use Rattle.pm_book.specs.declared.event.Event.TheVariants.{Returned, Closed, Found}
use Rattle.pm_book.specs.Rows.{Row, BookState, work_of, is_found}
use Rattle.pm_book.specs.Steps.{new_book, is_about, cut_of, next, MakesBook}

-- An event tells the truth at its row and the list that it names: a close of the whole row, a
-- return of what is below the list, a find of the path.
abbrev pub IsTrueAt : Entries → Event → Option (List ℕ) → Row → Type 0
IsTrueAt entries (Closed number work) cut row = Closes entries row.from row.to work
IsTrueAt entries (Returned number place work) (Some cut) row = Closes entries row.from (At cut) work
IsTrueAt entries (Found number place work) (Some path) row = Finds entries row.from row.to path work
IsTrueAt entries event cut row = Unit {0}

-- an event is honest at its book: it tells the truth at the row that it is about
abbrev pub IsHonest : Entries → BookState → Event → Option (List ℕ) → Type 0
IsHonest entries book event cut =
    (row : Row) → find (is_about event) book.rows ≡ Some row → IsTrueAt entries event cut row

-- each event is honest at the book of those before it
abbrev pub AreHonest : Entries → List (List ℕ) → List Event → Option BookState → Type 0
AreHonest entries cuts [] book = Unit {0}
AreHonest entries cuts (event ∷ events) book =
    MatchOption book (Unit {0}) (λ at_event. IsHonest entries at_event event (cut_of cuts event))
    × AreHonest entries cuts events (next cuts book event)

-- a row before the rows after it, where the front goes on; `front` is that of the rows after it
abbrev pub front_from : Row → RowState → List Row → List Row
front_from row (Done work false) front = row ∷ front
front_from row (Done work true) front = row ∷ []
front_from row state front = []

-- The front of rows: the longest run, from the first row on, of rows that are all Done and of which
-- none but the last was found.
abbrev pub front_of : List Row → List Row
front_of [] = []
front_of (row ∷ rows) = front_from row row.state (front_of rows)

-- the sum of the works of the front
abbrev pub front_work : BookState → ℕ
front_work book = sum_by (λ row. work_of row.state) (front_of book.rows)

-- the last row was found
abbrev pub EndsFound : List Row → Type 0
EndsFound [] = ⊥
EndsFound (row ∷ []) = is_found row.state ≡ true
EndsFound (row ∷ other ∷ rows) = EndsFound (other ∷ rows)

-- A book is settled for a number where the work of its front is greater, or the front's last row
-- was found, or the front holds all rows.
abbrev pub IsSettled : ℕ → BookState → Type 0
IsSettled most book =
    ((most < front_work book) ⊎ EndsFound (front_of book.rows)) ⊎ (front_of book.rows ≡ book.rows)

-- best is the first marked list of all, and the work of the front is the number of entries up to it
abbrev pub FindsBest : Entries → BookState → Type 0
FindsBest entries book =
    (path : List ℕ) × (book.best ≡ Some path) × Finds entries [] End path (front_work book)

-- What a settled book says of all entries. Where the work of its front is greater than the number,
-- more than so many entries have no marked list before them. Else, where the front's last row was
-- found, best is the first marked list, and the work is the number of entries up to it. Else no
-- list is marked, and the work is the number of all.
pub record TellsOf (entries : Entries) (most : ℕ) (book : BookState) : Type 0 where
  pub over : most < front_work book → HasMore entries most
  pub found : front_work book ≤ most → EndsFound (front_of book.rows) → FindsBest entries book
  pub closed :
      front_work book ≤ most → (¬ EndsFound (front_of book.rows))
      → Closes entries [] End (front_work book)

-- every book that honest events made and that is settled tells of all entries
abbrev pub SettledBooksTell : Entries → Type 0
SettledBooksTell entries =
    (most budget : ℕ) (cuts : List (List ℕ)) (events : List Event) (book : BookState)
    → MakesBook budget cuts events book → AreHonest entries cuts events (Some (new_book budget))
    → IsSettled most book → TellsOf entries most book
