-- Honest pieces.
use Rattle.std.proofs.Common.{◌≡◌, ℕ, Bool, List, [], ◌∷◌, ◌++◌, sym, subst, inl, inr}
use Rattle.std.specs.Prelude.{Option, Some, None, All, MatchOption, IsTrue, ◌↔◌, Contains}
use Rattle.std.proofs.lemmas.List.Elements.{All-weaker, All-push, Contains-append_left, Contains-append_cases}
use Rattle.pm_space.specs.Key.{Key, Agree}
use Rattle.pm_choice.specs.Entries.{Closes, Finds}
use Rattle.pm_choice.proofs.EntryLemmas.{finds_same}
use Rattle.pm_search.specs.Attempts.{attempts_of}
use Rattle.pm_search.proofs.AgreeLemmas.{same_attempts, closes_agrees}
use Rattle.pm_work.specs.declared.piece.Piece.{Piece}
use Rattle.pm_book.specs.Rows.{Row}
use Rattle.pm_work.specs.Pieces.{IsHonestPiece, IsOneOf}

-- a piece that is honest for a key is so for each that agrees with it
pub honest_agrees : (key other : Key) → Agree other key → (piece : Piece) → IsHonestPiece other piece → IsHonestPiece key piece
honest_agrees key other agree piece honest = by piece.path honest
  where
    by : (path : Option (List ℕ)) → MatchOption path (Closes (attempts_of other) piece.from piece.to piece.work) (λ list. Finds (attempts_of other) piece.from piece.to list piece.work)
        → MatchOption path (Closes (attempts_of key) piece.from piece.to piece.work) (λ list. Finds (attempts_of key) piece.from piece.to list piece.work)
    by None closes = closes_agrees key other agree piece.from piece.to piece.work closes
    by (Some path) finds = finds_same (attempts_of other) (attempts_of key) (same_attempts key other agree) piece.from piece.to path piece.work finds

pub all_agree : (key other : Key) → Agree other key → (pieces : List Piece) → All (IsHonestPiece other) pieces → All (IsHonestPiece key) pieces
all_agree key other agree = All-weaker (IsHonestPiece other) (IsHonestPiece key) (honest_agrees key other agree)

-- a row that is none of the later pieces is one of all where it is one of the earlier
pub one_of_earlier : (before after pieces : List Piece) (best : Option (List ℕ)) (row : Row) (told : Bool) → pieces ≡ before ++ after → (¬ IsOneOf after best row) → (IsTrue told ↔ IsOneOf before best row)
    → IsTrue told ↔ IsOneOf pieces best row
one_of_earlier before after pieces best row told is none is-before = (
  λ t. let one = is-before.0 t in record { piece = one.piece; has = subst (λ (l : List Piece). Contains l one.piece) (sym is) (Contains-append_left before after one.piece one.has); is = one.is },
  λ o. elim (Contains-append_cases before after o.piece (subst (λ (l : List Piece). Contains l o.piece) is o.has)) [
    | inl left ↦ is-before.1 (record { piece = o.piece; has = left; is = o.is })
    | inr right ↦ absurd (none (record { piece = o.piece; has = right; is = o.is }))
  ],
)

-- one more piece
pub with_piece : (key : Key) (pieces more : List Piece) (piece : Piece) → more ≡ pieces ++ piece ∷ [] → All (IsHonestPiece key) pieces → IsHonestPiece key piece → All (IsHonestPiece key) more
with_piece key pieces more piece is all honest = subst (All (IsHonestPiece key)) (sym is) (All-push (IsHonestPiece key) pieces piece all honest)
