-- What the rows of a book say, beside pieces.
use Rattle.std.specs.Prelude.{◌≡◌, ℕ, ◌+◌, ◌≤◌, ◌⊎◌, ◌↔◌, min, true, false, Bool, List, Option, Contains, All, IsTrue}
use Rattle.pm_book.specs.declared.row.RowState.TheVariants.{Done}
use Rattle.pm_book.specs.Rows.{Row, BookState, is_above, is_running}
use Rattle.pm_book.specs.Honest.{front_of, front_work, EndsFound, IsSettled}
use Rattle.pm_book.specs.Answers.{IsQueuedAt}
use Rattle.pm_work.specs.declared.piece.Piece.{Piece}
use Rattle.pm_work.specs.declared.front.Reading.{Reading}
use Rattle.pm_work.specs.declared.front.Reading.TheVariants.{Settled, Queued, Stuck}
use Rattle.pm_work.specs.Pieces.{IsOneOf}

-- The book is settled for the budget, and each row of its front is a piece. The work is that of the
-- front, up to one more than the budget; the front's last row was found, or not.
pub record IsSettledBy (pieces : List Piece) (budget : ℕ) (book : BookState) (work : ℕ)
    (found : Bool) : Type 0 where
  pub settled : IsSettled budget book
  pub front : All (IsOneOf pieces book.best) (front_of book.rows)
  pub work_is : work ≡ min (budget + 1) (front_work book)
  pub found_is : IsTrue found ↔ EndsFound (front_of book.rows)

-- The book isn't settled for the budget: each row of its front is a piece, their works are no more
-- than the budget, and a row of this number is Queued.
pub record GoesOn (pieces : List Piece) (budget : ℕ) (book : BookState) (work row : ℕ)
    : Type 0 where
  pub front : All (IsOneOf pieces book.best) (front_of book.rows)
  pub work_is : work ≡ front_work book
  pub few : work ≤ budget
  pub queued : IsQueuedAt book row

-- a row is Running, or Done and none of the pieces
abbrev pub IsMisfit : List Piece → Option (List ℕ) → Row → Type 0
IsMisfit pieces best row =
    (is_running row.state ≡ true)
    ⊎ ((work : ℕ) × (found : Bool) × (row.state ≡ Done work found) × (¬ IsOneOf pieces best row))

-- a row that isn't above best is a misfit
pub record HasMisfit (pieces : List Piece) (book : BookState) : Type 0 where
  pub row : Row
  pub has : Contains book.rows row
  pub counts : is_above book.best row.from ≡ false
  pub is : IsMisfit pieces book.best row

-- what a book says
abbrev pub Reads : List Piece → ℕ → BookState → Reading → Type 0
Reads pieces budget book (Settled work found) = IsSettledBy pieces budget book work found
Reads pieces budget book (Queued row work) = GoesOn pieces budget book work row
Reads pieces budget book Stuck = HasMisfit pieces book
