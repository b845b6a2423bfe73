-- What the front of a book tells, where its rows tell the truth; and where a front stops.
use Rattle.std.proofs.Common.{◌≡◌, ℕ, ◌+◌, ◌⊎◌, ◌∙◌, true, false, List, [], ◌∷◌, refl, ap, subst, inl, inr, arith}
use Rattle.std.specs.Prelude.{Option, Some, None, All, Contains}
use Rattle.std.specs.List.{sum_by}
use Rattle.std.proofs.lemmas.List.Sums.{sum_by-cons}
use Rattle.std.proofs.lemmas.List.Elements.{All-head, All-tail, All-contains}
use Rattle.pm_choice.specs.declared.Bound.{Bound}
use Rattle.pm_choice.specs.declared.Bound.TheVariants.{At, End}
use Rattle.pm_choice.specs.Order.{Precedes, PrecedesBound}
use Rattle.pm_choice.specs.Entries.{Entries, Closes, Finds}
use Rattle.pm_choice.proofs.OrderLemmas.{transitive}
use Rattle.pm_choice.proofs.EntryLemmas.{closes_nothing, closes_join, finds_join, more_closed, more_found}
use Rattle.pm_book.specs.declared.row.RowState.{RowState}
use Rattle.pm_book.specs.declared.row.RowState.TheVariants.{Queued, Running, Done, Dropped}
use Rattle.pm_book.specs.Rows.{Row, Tile, is_found, is_above, work_of}
use Rattle.pm_book.specs.Always.{HasBest}
use Rattle.pm_book.specs.Honest.{front_from, front_of, front_work, EndsFound}
use Rattle.pm_book.specs.Fronts.{IsTrueState, IsTrueRow, FrontsTell, FrontsStop}
use Rattle.pm_book.proofs.OrderTests.{is_not_before}
use Rattle.pm_book.proofs.Tiles.{tile_round, begins_after}
use Rattle.pm_book.proofs.Kept.{where_in}

pub fronts_stop : FrontsStop
fronts_stop book before row after always is unfound = by book.best always.best
  where
    by : (best : Option (List ℕ)) → HasBest best book.rows → is_above best row.from ≡ false
    by None has = refl
    by (Some path) has =
        let round = tile_round (At []) End before row after (subst (λ (l : List Row). Tile (At []) End l) is always.tiled) in
        is_not_before path row.from (λ p. elim (where_in before row after has.0 (subst (λ (l : List Row). Contains l has.0) is has.1)) [
          | inl (inl left) ↦
              let one = All-contains (λ (other : Row). is_found other.state ≡ false) before has.0 unfound left in
              let two = has.2.found in
              cc
          | inl (inr same) ↦ has.2.within.not_below (subst (λ (r : Row). Precedes path r.from) same p)
          | inr right ↦
              has.2.within.not_below (transitive path row.from has.0.from p (All-contains (λ (x : Row). (l : List ℕ) → PrecedesBound l row.to → Precedes l x.from) after has.0 (begins_after row.to End after round.right) right row.from round.here))
        ])

abbrev sum_of : List Row → ℕ
sum_of rows = sum_by (λ row. work_of row.state) rows

-- What a front says, where so much work was done before it: it closes up to a bound, or it found best.
abbrev Says : Entries → Option (List ℕ) → Bound → ℕ → List Row → List Row → Type 0
Says entries best to done front rows =
    ((end : Bound) × Closes entries [] end (done + sum_of front) × (front ≡ rows → end ≡ to) × (¬ EndsFound front))
    ⊎ ((path : List ℕ) × (best ≡ Some path) × Finds entries [] End path (done + sum_of front) × EndsFound front)

ends_later : (row : Row) (work : ℕ) (front : List Row) → row.state ≡ Done work false → EndsFound (row ∷ front) → EndsFound front
ends_later row work [] is e = absurd (let no' : is_found row.state ≡ false = ap is_found is in cc)
ends_later row work (other ∷ rows) is e = e

ends_still : (row : Row) (front : List Row) → EndsFound front → EndsFound (row ∷ front)
ends_still row [] e = absurd e
ends_still row (other ∷ rows) e = e

says_more : (entries : Entries) (best : Option (List ℕ)) (to : Bound) (done work : ℕ) (row : Row) (front rows : List Row) → row.state ≡ Done work false
    → Says entries best to (done + work) front rows → Says entries best to done (row ∷ front) (row ∷ rows)
says_more entries best to done work row front rows is says =
    let sums : sum_of (row ∷ front) ≡ work + sum_of front = sum_by-cons (λ (r : Row). work_of r.state) row front ∙ ap (λ (s : RowState). work_of s + sum_of front) is in
    let total : (done + work) + sum_of front ≡ done + sum_of (row ∷ front) = omega (arith, sums) in
    elim says [
      | inl closed ↦ inl (
        closed.0,
        subst (λ (n : ℕ). Closes entries [] closed.0 n) total closed.1,
        λ same. closed.2 (let rest : row ∷ front ≡ row ∷ rows = same in cc),
        λ e. closed.3 (ends_later row work front is e),
      )
      | inr found ↦ inr (found.0, found.1, subst (λ (n : ℕ). Finds entries [] End found.0 n) total found.2, ends_still row front found.3)
    ]

front_says : (entries : Entries) (best : Option (List ℕ)) (to : Bound) (rows : List Row) (from : Bound) (done : ℕ)
    → Tile from to rows → All (IsTrueRow entries best) (front_of rows) → Closes entries [] from done → Says entries best to done (front_of rows) rows
front_says entries best to [] from done tiles tells closed = inl (from, subst (λ (n : ℕ). Closes entries [] from n) (let z : done ≡ done + 0 = omega arith in z) closed, λ e. tiles, λ h. h)
front_says entries best to (row ∷ rows) from done tiles tells closed =
    by row.state refl tells (λ work onward later. front_says entries best to rows row.to (done + work) tiles.2 later onward)
  where
    closed_here : Closes entries [] (At row.from) done
    closed_here = subst (λ (b : Bound). Closes entries [] b done) tiles.0 closed

    stops : Says entries best to done [] (row ∷ rows)
    stops = inl (from, subst (λ (n : ℕ). Closes entries [] from n) (let z : done ≡ done + 0 = omega arith in z) closed, λ e. absurd cc, λ h. h)

    by : (state : RowState) → row.state ≡ state → All (IsTrueRow entries best) (front_from row state (front_of rows))
        → ((work : ℕ) → Closes entries [] row.to (done + work) → All (IsTrueRow entries best) (front_of rows) → Says entries best to (done + work) (front_of rows) rows)
        → Says entries best to done (front_from row state (front_of rows)) (row ∷ rows)
    by Queued is tells' go = stops
    by (Running worker) is tells' go = stops
    by Dropped is tells' go = stops
    by (Done work false) is tells' go =
        let here : Closes entries row.from row.to work = subst (IsTrueState entries best row.from row.to) is (All-head (IsTrueRow entries best) row (front_of rows) tells') in
        says_more entries best to done work row (front_of rows) rows is
        (go work (closes_join entries row.from row.to done work tiles.1 closed_here here) (All-tail (IsTrueRow entries best) row (front_of rows) tells'))
    by (Done work true) is tells' go =
        let here : IsTrueState entries best row.from row.to (Done work true) = subst (IsTrueState entries best row.from row.to) is (All-head (IsTrueRow entries best) row [] tells') in
        let sums : sum_of (row ∷ []) ≡ work + 0 = sum_by-cons (λ (r : Row). work_of r.state) row [] ∙ ap (λ (s : RowState). work_of s + 0) is in
        let total : done + work ≡ done + sum_of (row ∷ []) = omega (arith, sums) in
        let found = finds_join entries row.from row.to here.0 done work closed_here here.2 in
        inr (here.0, here.1, subst (λ (n : ℕ). Finds entries [] End here.0 n) total found, ap is_found is)

pub fronts_tell : (entries : Entries) → FrontsTell entries
fronts_tell entries most book always tells settled =
    let says = front_says entries book.best End book.rows (At []) 0 always.tiled tells (closes_nothing entries) in
    let zero : 0 + front_work book ≡ front_work book = omega arith in
    elim says [
      | inl closed ↦
          let all : Closes entries [] closed.0 (front_work book) = subst (λ (n : ℕ). Closes entries [] closed.0 n) zero closed.1 in
          record {
            over = λ more. more_closed entries closed.0 most (front_work book) all more;
            found = λ few ends. absurd (closed.3 ends);
            closed = λ few ends. elim settled [
              | inl (inl more) ↦ absurd (omega arith)
              | inl (inr found) ↦ absurd (ends found)
              | inr whole ↦ subst (λ (b : Bound). Closes entries [] b (front_work book)) (closed.2 whole) all
            ];
          }
      | inr found ↦
          let all : Finds entries [] End found.0 (front_work book) = subst (λ (n : ℕ). Finds entries [] End found.0 n) zero found.2 in
          record {
            over = λ more. more_found entries found.0 most (front_work book) all more;
            found = λ few ends. (found.0, found.1, all);
            closed = λ few ends. absurd (ends found.3);
          }
    ]
