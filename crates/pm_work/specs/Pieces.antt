-- Pieces of a level: when they are honest, and which rows of a book they are.
use Rattle.std.specs.Prelude.{◌≡◌, ℕ, true, false, List, Option, None, MatchOption, Contains}
use Rattle.pm_space.specs.Key.{Key}
use Rattle.pm_choice.specs.Entries.{Closes, Finds}
use Rattle.pm_search.specs.Attempts.{attempts_of}
use Rattle.pm_book.specs.declared.row.RowState.{RowState}
use Rattle.pm_book.specs.declared.row.RowState.TheVariants.{Done}
use Rattle.pm_book.specs.Rows.{Row}
use Rattle.pm_work.specs.declared.piece.Piece.{Piece}

-- A piece is honest for a key: with a path, this is the first complete list of its interval, and
-- its work is the number of attempts up to it; without one, the interval has no complete list, and
-- its work is the number of its attempts.
abbrev pub IsHonestPiece : Key → Piece → Type 0
IsHonestPiece key piece =
    MatchOption piece.path
    (Closes (attempts_of key) piece.from piece.to piece.work)
    (λ path. Finds (attempts_of key) piece.from piece.to path piece.work)

-- a row that was searched as a piece was: with its work, and with best as its path where it was
-- found
abbrev pub IsDoneAs : Option (List ℕ) → Piece → RowState → Type 0
IsDoneAs best piece (Done work false) = (work ≡ piece.work) × (piece.path ≡ None)
IsDoneAs best piece (Done work true) = (work ≡ piece.work) × (piece.path ≡ best)
IsDoneAs best piece state = ⊥

-- a row is a piece
pub record IsPiece (best : Option (List ℕ)) (row : Row) (piece : Piece) : Type 0 where
  pub from : piece.from ≡ row.from
  pub to : piece.to ≡ row.to
  pub state : IsDoneAs best piece row.state

-- a row is one of these pieces
pub record IsOneOf (pieces : List Piece) (best : Option (List ℕ)) (row : Row) : Type 0 where
  pub piece : Piece
  pub has : Contains pieces piece
  pub is : IsPiece best row piece
