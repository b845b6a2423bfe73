-- What a settled book of honest pieces says of its level.
use Rattle.std.proofs.Common.{◌≡◌, ℕ, ◌∙◌, true, false, List, [], ◌∷◌, get_or, refl, sym, subst, arith}
use Rattle.std.specs.Prelude.{Option, Some, None, All, MatchOption}
use Rattle.std.proofs.lemmas.List.Elements.{All-nil, All-cons, All-head, All-tail, All-contains}
use Rattle.pm_space.specs.Key.{Key}
use Rattle.pm_choice.specs.declared.Bound.{Bound}
use Rattle.pm_choice.specs.declared.Bound.TheVariants.{End}
use Rattle.pm_choice.specs.Entries.{Closes, Finds}
use Rattle.pm_search.specs.Attempts.{attempts_of}
use Rattle.pm_search.proofs.WorkLemmas.{more_exceeds}
use Rattle.pm_book.specs.declared.row.RowState.{RowState}
use Rattle.pm_book.specs.declared.row.RowState.TheVariants.{Queued, Running, Done, Dropped}
use Rattle.pm_book.specs.Rows.{Row, BookState, is_found}
use Rattle.pm_book.specs.Always.{HasBest, AlwaysHolds}
use Rattle.pm_book.specs.Honest.{front_from, front_of, front_work, EndsFound, IsSettled, TellsOf}
use Rattle.pm_book.specs.Fronts.{IsTrueState, IsTrueRow}
use Rattle.pm_book.proofs.Fronts.{fronts_tell}
use Rattle.pm_work.specs.declared.piece.Piece.{Piece}
use Rattle.pm_work.specs.Pieces.{IsHonestPiece, IsDoneAs, IsPiece, IsOneOf}
use Rattle.pm_pool.specs.declared.level.LevelEnd.{LevelEnd}
use Rattle.pm_pool.specs.declared.level.LevelEnd.TheVariants.{Exhausted, Found, Over}
use Rattle.pm_pool.specs.Level.{EndsLevel, IsEndOf}

-- what holds of all rows holds of the front
front_all : (P : Row → Type 0) (rows : List Row) → All P rows → All P (front_of rows)
front_all P [] all = All-nil P
front_all P (row ∷ rows) all = by row.state (front_all P rows (All-tail P row rows all))
  where
    by : (state : RowState) → All P (front_of rows) → All P (front_from row state (front_of rows))
    by Queued rest = All-nil P
    by (Running worker) rest = All-nil P
    by (Done work true) rest = All-cons P row [] (All-head P row rows all) (All-nil P)
    by (Done work false) rest = All-cons P row (front_of rows) (All-head P row rows all) rest
    by Dropped rest = All-nil P

ends_somewhere : (rows : List Row) → All (λ row. is_found row.state ≡ false) rows → ¬ EndsFound rows
ends_somewhere [] each ends = ends
ends_somewhere (x ∷ []) each ends = let one = All-head (λ (row : Row). is_found row.state ≡ false) x [] each in cc
ends_somewhere (x ∷ y ∷ rows) each ends = ends_somewhere (y ∷ rows) (All-tail (λ (row : Row). is_found row.state ≡ false) x (y ∷ rows) each) ends

-- without a best path no row of the front was found
none_found : (book : BookState) → AlwaysHolds book → book.best ≡ None → All (λ row. is_found row.state ≡ false) (front_of book.rows)
none_found book always none =
    let has : HasBest None book.rows = subst (λ (b : Option (List ℕ)). HasBest b book.rows) none always.best in
    front_all (λ row. is_found row.state ≡ false) book.rows has

-- where the front's last row was found, a best path is there
pub best_there : (book : BookState) → AlwaysHolds book → EndsFound (front_of book.rows) → book.best ≡ None → ⊥
best_there book always ends none = ends_somewhere (front_of book.rows) (none_found book always none) ends

-- a row that is an honest piece tells the truth
piece_true : (key : Key) (best : Option (List ℕ)) (row : Row) (piece : Piece) → (best ≡ None → is_found row.state ≡ false) → IsPiece best row piece → IsHonestPiece key piece → IsTrueRow (attempts_of key) best row
piece_true key best row piece unfound is honest =
    subst (λ (l : List ℕ). IsTrueState (attempts_of key) best l row.to row.state) is.from
    (subst (λ (b : Bound). IsTrueState (attempts_of key) best piece.from b row.state) is.to (by row.state unfound is.state))
  where
    found : (b : Option (List ℕ)) (work : ℕ) → (b ≡ None → ⊥) → work ≡ piece.work → piece.path ≡ b → IsTrueState (attempts_of key) b piece.from piece.to (Done work true)
    found None work there work-is path-is = absurd (there refl)
    found (Some path) work there work-is path-is =
        let finds : Finds (attempts_of key) piece.from piece.to path piece.work =
        subst (λ (o : Option (List ℕ)). MatchOption o (Closes (attempts_of key) piece.from piece.to piece.work) (λ list. Finds (attempts_of key) piece.from piece.to list piece.work)) path-is honest in
        (path, refl, subst (λ (n : ℕ). Finds (attempts_of key) piece.from piece.to path n) (sym work-is) finds)

    by : (state : RowState) → (best ≡ None → is_found state ≡ false) → IsDoneAs best piece state → IsTrueState (attempts_of key) best piece.from piece.to state
    by Queued u d = absurd d
    by (Running worker) u d = absurd d
    by Dropped u d = absurd d
    by (Done work true) u d = found best work (λ none. let f = u none in absurd cc) d.0 d.1
    by (Done work false) u d =
        let closes : Closes (attempts_of key) piece.from piece.to piece.work =
        subst (λ (o : Option (List ℕ)). MatchOption o (Closes (attempts_of key) piece.from piece.to piece.work) (λ list. Finds (attempts_of key) piece.from piece.to list piece.work)) d.1 honest in
        subst (λ (n : ℕ). Closes (attempts_of key) piece.from piece.to n) (sym d.0) closes

-- a book whose front is of honest pieces tells of the level
pub tells : (key : Key) (budget : ℕ) (book : BookState) (pieces : List Piece) → AlwaysHolds book → All (IsHonestPiece key) pieces → All (IsOneOf pieces book.best) (front_of book.rows)
    → IsSettled budget book → TellsOf (attempts_of key) budget book
tells key budget book pieces always honest ones settled =
    fronts_tell (attempts_of key) budget book always
    (λ k d less.
    let row : Row = get_or (front_of book.rows) k d in
    let one = ones k d less in
    piece_true key book.best row one.piece (λ none. none_found book always none k d less) one.is (All-contains (IsHonestPiece key) pieces one.piece honest one.has))
    settled

-- so the end that it says is that of the level
pub level_ends : (key : Key) (budget : ℕ) (book : BookState) (end : LevelEnd) → TellsOf (attempts_of key) budget book → IsEndOf budget book end → EndsLevel key budget end
level_ends key budget book (Exhausted work) told is =
    (subst (λ (n : ℕ). Closes (attempts_of key) [] End n) (sym is.2) (told.closed is.0 is.1), omega (arith, is.0, is.2))
level_ends key budget book (Found path work) told is =
    let best = told.found is.0 is.1 in
    let some : Some best.0 ≡ Some path = sym best.1 ∙ is.2 in
    let same : best.0 ≡ path = cc in (
      subst (λ (n : ℕ). Finds (attempts_of key) [] End path n) (sym is.3) (subst (λ (l : List ℕ). Finds (attempts_of key) [] End l (front_work book)) same best.2),
      omega (arith, is.0, is.3),
    )
level_ends key budget book Over told is = more_exceeds key budget (told.over is)
