-- What the front of a book tells, where its rows are known to tell the truth.
use Rattle.std.specs.Prelude.{◌≡◌, ℕ, true, false, List, ◌∷◌, ◌++◌, All, Option, Some}
use Rattle.pm_choice.specs.declared.Bound.{Bound}
use Rattle.pm_choice.specs.Entries.{Entries, Closes, Finds}
use Rattle.pm_book.specs.declared.row.RowState.{RowState}
use Rattle.pm_book.specs.declared.row.RowState.TheVariants.{Done}
use Rattle.pm_book.specs.Rows.{Row, BookState, is_found, is_above}
use Rattle.pm_book.specs.Always.{AlwaysHolds}
use Rattle.pm_book.specs.Honest.{front_of, IsSettled, TellsOf}

-- An interval was searched, and the state of its row tells the truth of it: a close of the
-- interval, or best was found in it.
abbrev pub IsTrueState : Entries → Option (List ℕ) → List ℕ → Bound → RowState → Type 0
IsTrueState entries best from to (Done work false) = Closes entries from to work
IsTrueState entries best from to (Done work true) =
    (path : List ℕ) × (best ≡ Some path) × Finds entries from to path work
IsTrueState entries best from to state = ⊥

abbrev pub IsTrueRow : Entries → Option (List ℕ) → Row → Type 0
IsTrueRow entries best row = IsTrueState entries best row.from row.to row.state

-- Every settled book tells of all entries where each row of its front tells the truth.
abbrev pub FrontsTell : Entries → Type 0
FrontsTell entries =
    (most : ℕ) (book : BookState) → AlwaysHolds book
    → All (IsTrueRow entries book.best) (front_of book.rows)
    → IsSettled most book → TellsOf entries most book

-- No row is above best where none of the rows before it was found.
abbrev pub FrontsStop : Type 0
FrontsStop =
    (book : BookState) (before : List Row) (row : Row) (after : List Row)
    → AlwaysHolds book → book.rows ≡ before ++ row ∷ after
    → All (λ other. is_found other.state ≡ false) before → is_above book.best row.from ≡ false
