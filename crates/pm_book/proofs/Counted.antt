-- What is counted of rows, where some of them change.
use Rattle.std.proofs.Common.{◌≡◌, ℕ, ◌+◌, ◌^◌, ◌<◌, ◌≤◌, ◌∙◌, Bool, true, false, cond, List, [], ◌∷◌, ◌++◌, length, take, map, get_or, refl, sym, ap, arith}
use Rattle.std.specs.Prelude.{Option, Some, All, ◌↔◌, ◌||◌, ◌&&◌, not, if◌then◌else◌}
use Rattle.std.specs.List.{sum_by, count_by}
use Rattle.std.proofs.lemmas.List.{map-append, take_more}
use Rattle.std.proofs.lemmas.List.Sums.{sum_by-cons, sum_by-append, count_by-le-length}
use Rattle.std.proofs.lemmas.List.Elements.{All-nil, All-cons, All-head, All-tail}
use Rattle.pm_choice.specs.declared.Bound.{Bound}
use Rattle.pm_book.specs.declared.row.RowState.{RowState}
use Rattle.pm_book.specs.declared.row.RowState.TheVariants.{Queued, Running, Done, Dropped}
use Rattle.pm_book.specs.declared.row.BookRow.{BookRow}
use Rattle.pm_book.specs.declared.counts.Counts.{Counts}
use Rattle.pm_book.specs.Rows.{Row, is_before, is_queued, is_running, is_above, is_open, counted_work, work_of}
use Rattle.pm_book.specs.Shown.{row_seen}
use Rattle.pm_book.specs.Steps.{drop_above}
use Rattle.pm_book.specs.Inside.Counted.{AreCounted, AreSmall, ArePart, counts_of, both, forgets}
use Rattle.pm_book.proofs.Kept.{drop_from}

-- the four things that are counted
abbrev pub running_one : Row → ℕ
running_one row = cond (is_running row.state) 1 0

abbrev pub queued_one : Row → ℕ
queued_one row = cond (is_queued row.state) 1 0

abbrev pub open_one : Option (List ℕ) → Row → ℕ
open_one best row = cond (is_open best row) 1 0

sum_one : (f : Row → ℕ) (row : Row) → sum_by f (row ∷ []) ≡ f row
sum_one f row = let a = sum_by-cons f row [] in omega (arith, a)

-- the counts of one row
pub one_counted : (best : Option (List ℕ)) (row : Row) (above : Bool) → above ≡ is_above best row.from → AreCounted (counts_of above row.state) best (row ∷ [])
one_counted best row above is = record {
  running = sym (sum_one running_one row);
  queued = sym (sum_one queued_one row);
  remaining = ap (λ (a : Bool). cond {A = ℕ} ((is_queued row.state || is_running row.state) && not a) 1 0) is ∙ sym (sum_one (open_one best) row);
  spent = ap (λ (a : Bool). if a then 0 else work_of row.state) is ∙ sym (sum_one (counted_work best) row);
}

pub none_counted : (best : Option (List ℕ)) → AreCounted (record { running = 0; queued = 0; remaining = 0; spent = 0 }) best []
none_counted best = record { running = refl; queued = refl; remaining = refl; spent = refl }

-- the counts of some rows and of others make those of all
pub both_counted : (some others : Counts) (best : Option (List ℕ)) (xs ys : List Row) → AreCounted some best xs → AreCounted others best ys → AreCounted (both some others) best (xs ++ ys)
both_counted some others best xs ys a b = record {
  running = (let s = sum_by-append running_one xs ys in omega (arith, s, a.running, b.running));
  queued = (let s = sum_by-append queued_one xs ys in omega (arith, s, a.queued, b.queued));
  remaining = (let s = sum_by-append (open_one best) xs ys in omega (arith, s, a.remaining, b.remaining));
  spent = (let s = sum_by-append (counted_work best) xs ys in omega (arith, s, a.spent, b.spent));
}

sum_around : (f : Row → ℕ) (before : List Row) (row : Row) (after : List Row) → sum_by f (before ++ (row ∷ after)) ≡ sum_by f before + (sum_by f (row ∷ []) + sum_by f after)
sum_around f before row after =
    let a = sum_by-append f before (row ∷ after) in
    let b = sum_by-cons f row after in
    let one = sum_one f row in
    omega (arith, a, b, one)

-- the counts of a row are a part of those of all
pub part_counted : (one all : Counts) (best : Option (List ℕ)) (before : List Row) (row : Row) (after : List Row) → AreCounted one best (row ∷ []) → AreCounted all best (before ++ (row ∷ after)) → ArePart one all
part_counted one all best before row after a b = record {
  running = (let s = sum_around running_one before row after in omega (arith, s, a.running, b.running));
  queued = (let s = sum_around queued_one before row after in omega (arith, s, a.queued, b.queued));
  remaining = (let s = sum_around (open_one best) before row after in omega (arith, s, a.remaining, b.remaining));
  spent = (let s = sum_around (counted_work best) before row after in omega (arith, s, a.spent, b.spent));
}

sum_put : (f : Row → ℕ) (before : List Row) (was row : Row) (rest after : List Row)
    → sum_by f (before ++ ((row ∷ rest) ++ after)) + sum_by f (was ∷ []) ≡ sum_by f (before ++ (was ∷ after)) + sum_by f (row ∷ []) + sum_by f rest
sum_put f before was row rest after =
    let a = sum_around f before was after in
    let b = sum_around f before row (rest ++ after) in
    let d = sum_by-append f rest after in
    omega (arith, a, b, d)

-- a Running row is among the Running rows
pub running_least : (counts : Counts) (best : Option (List ℕ)) (before : List Row) (row : Row) (after : List Row) → AreCounted counts best (before ++ (row ∷ after)) → running_one row ≤ counts.running
running_least counts best before row after counted =
    let s = sum_around running_one before row after in
    let one = sum_one running_one row in
    omega (arith, s, one, counted.running)

pub tail_part : (some all : Counts) (best : Option (List ℕ)) (xs ys : List Row) → AreCounted some best ys → AreCounted all best (xs ++ ys) → ArePart some all
tail_part some all best xs ys a b = record {
  running = (let s = sum_by-append running_one xs ys in omega (arith, s, a.running, b.running));
  queued = (let s = sum_by-append queued_one xs ys in omega (arith, s, a.queued, b.queued));
  remaining = (let s = sum_by-append (open_one best) xs ys in omega (arith, s, a.remaining, b.remaining));
  spent = (let s = sum_by-append (counted_work best) xs ys in omega (arith, s, a.spent, b.spent));
}

pub one_running : (one : Counts) (best : Option (List ℕ)) (row : Row) → AreCounted one best (row ∷ []) → one.running ≡ running_one row
one_running one best row is = is.running ∙ sum_one running_one row

-- a row takes the place of a row, and others come after it
pub put_counts : (all others one new more : Counts) (best : Option (List ℕ)) (before : List Row) (was row : Row) (rest after : List Row) → AreCounted all best (before ++ (was ∷ after)) → AreCounted one best (was ∷ []) → both others one ≡ all
    → AreCounted new best (row ∷ []) → AreCounted more best rest → AreCounted (both (both others new) more) best (before ++ ((row ∷ rest) ++ after))
put_counts all others one new more best before was row rest after counted old e here later = record {
  running = (let s = sum_put running_one before was row rest after in let r = ap (λ (c : Counts). c.running) e in omega (arith, s, r, counted.running, old.running, here.running, later.running));
  queued = (let s = sum_put queued_one before was row rest after in let r = ap (λ (c : Counts). c.queued) e in omega (arith, s, r, counted.queued, old.queued, here.queued, later.queued));
  remaining = (let s = sum_put (open_one best) before was row rest after in let r = ap (λ (c : Counts). c.remaining) e in omega (arith, s, r, counted.remaining, old.remaining, here.remaining, later.remaining));
  spent = (let s = sum_put (counted_work best) before was row rest after in let r = ap (λ (c : Counts). c.spent) e in omega (arith, s, r, counted.spent, old.spent, here.spent, later.spent));
}

-- counts of so many rows fit
pub small_counts : (counts : Counts) (best : Option (List ℕ)) (rows : List Row) → AreCounted counts best rows → length rows < 2 ^ 63 → counts.spent + 2 ^ 64 ≤ 2 ^ 128 → AreSmall counts
small_counts counts best rows counted short few = record {
  running = (let l = count_by-le-length (λ (row : Row). is_running row.state) rows in omega (arith, l, counted.running, short));
  queued = (let l = count_by-le-length (λ (row : Row). is_queued row.state) rows in omega (arith, l, counted.queued, short));
  remaining = (let l = count_by-le-length (is_open best) rows in omega (arith, l, counted.remaining, short));
  spent = few;
}

-- a part of counts is as small
pub small_others : (all others one : Counts) → AreSmall all → both others one ≡ all → AreSmall others
small_others all others one small e = record {
  running = (let r = ap (λ (c : Counts). c.running) e in omega (arith, r, small.running));
  queued = (let r = ap (λ (c : Counts). c.queued) e in omega (arith, r, small.queued));
  remaining = (let r = ap (λ (c : Counts). c.remaining) e in omega (arith, r, small.remaining));
  spent = (let r = ap (λ (c : Counts). c.spent) e in omega (arith, r, small.spent));
}

-- where none of the rows passes, none is counted, and the other way round
pub none_counts : (test : Row → Bool) (rows : List Row) → (count_by test rows ≡ 0) ↔ All (λ row. test row ≡ false) rows
none_counts test [] = (λ e. All-nil (λ (row : Row). test row ≡ false), λ none. refl)
none_counts test (x ∷ xs) =
    let s = sum_by-cons (λ (row : Row). cond {A = ℕ} (test row) 1 0) x xs in
    let rest = none_counts test xs in (
      λ e.
          let here : test x ≡ false = by (test x) (omega (arith, s, e)) in
          All-cons (λ (row : Row). test row ≡ false) x xs here (rest.0 (omega (arith, s, e))),
      λ none.
          let here : cond {A = ℕ} (test x) 1 0 ≡ 0 = ap (λ (b : Bool). cond {A = ℕ} b 1 0) (All-head (λ (row : Row). test row ≡ false) x xs none) in
          let later = rest.1 (All-tail (λ (row : Row). test row ≡ false) x xs none) in
          omega (arith, s, here, later),
    )
  where
    by : (b : Bool) → cond {A = ℕ} b 1 0 ≡ 0 → b ≡ false
    by true e = absurd (omega (arith, e))
    by false e = refl

-- rows that are seen one further
pub seen_more : (cuts : List (List ℕ)) (rows : List BookRow) (k : ℕ) (d : BookRow) → k < length rows → map (row_seen cuts) (take (k + 1) rows) ≡ map (row_seen cuts) (take k rows) ++ (row_seen cuts (get_or rows k d) ∷ [])
seen_more cuts rows k d within = ap (map (row_seen cuts)) (take_more rows k d within) ∙ map-append (row_seen cuts) (take k rows) (get_or rows k d ∷ [])

sum_same : (f g : Row → ℕ) (rows : List Row) → All (λ row. f row ≡ g row) rows → sum_by f rows ≡ sum_by g rows
sum_same f g [] same = refl
sum_same f g (x ∷ xs) same =
    let a = sum_by-cons f x xs in
    let b = sum_by-cons g x xs in
    let here = All-head (λ (row : Row). f row ≡ g row) x xs same in
    let rest = sum_same f g xs (All-tail (λ (row : Row). f row ≡ g row) x xs same) in
    omega (arith, a, b, here, rest)

sum_dropped : (f g : Row → ℕ) (path : List ℕ) (rows : List Row) → ((row : Row) → is_before path row.from ≡ true → f (drop_above (Some path) row) ≡ g row) → All (λ row. is_before path row.from ≡ true) rows
    → sum_by f (map (drop_above (Some path)) rows) ≡ sum_by g rows
sum_dropped f g path [] same above = refl
sum_dropped f g path (x ∷ xs) same above =
    let a = sum_by-cons f (drop_above (Some path) x) (map (drop_above (Some path)) xs) in
    let b = sum_by-cons g x xs in
    let here = same x (All-head (λ (row : Row). is_before path row.from ≡ true) x xs above) in
    let rest = sum_dropped f g path xs same (All-tail (λ (row : Row). is_before path row.from ≡ true) x xs above) in
    omega (arith, a, b, here, rest)

sum_zero : (rows : List Row) → sum_by (λ (row : Row). 0) rows ≡ 0
sum_zero [] = refl
sum_zero (x ∷ xs) = let a = sum_by-cons (λ (row : Row). 0) x xs in let rest = sum_zero xs in omega (arith, a, rest)

-- a row above a path, and what a find leaves of it
dropped_running : (path : List ℕ) (number : ℕ) (from : List ℕ) (to : Bound) (state : RowState) → running_one (drop_above (Some path) (record { number = number; from = from; to = to; state = state })) ≡ cond {A = ℕ} (is_running state) 1 0
dropped_running path number from to Queued =
    elim (is_before path from) as (λ b. running_one (if b then record { number = number; from = from; to = to; state = Dropped } else record { number = number; from = from; to = to; state = Queued }) ≡ 0) [ true ↦ refl | false ↦ refl ]
dropped_running path number from to (Running worker) = refl
dropped_running path number from to (Done work found) = refl
dropped_running path number from to Dropped = refl

dropped_queued : (path : List ℕ) (number : ℕ) (from : List ℕ) (to : Bound) (state : RowState) → is_before path from ≡ true → queued_one (drop_above (Some path) (record { number = number; from = from; to = to; state = state })) ≡ 0
dropped_queued path number from to Queued above =
    ap (λ (b : Bool). queued_one (if b then record { number = number; from = from; to = to; state = Dropped } else record { number = number; from = from; to = to; state = Queued })) above
dropped_queued path number from to (Running worker) above = refl
dropped_queued path number from to (Done work found) above = refl
dropped_queued path number from to Dropped above = refl

and_none : (a : Bool) → (a && false) ≡ false
and_none true = refl
and_none false = refl

-- a row that is above best isn't to be done, and none of its work counts
closed_above : (path : List ℕ) (row : Row) → is_before path row.from ≡ true → open_one (Some path) row ≡ 0
closed_above path row above =
    ap (λ (b : Bool). cond {A = ℕ} ((is_queued row.state || is_running row.state) && not b) 1 0) above ∙ ap (λ (b : Bool). cond {A = ℕ} b 1 0) (and_none (is_queued row.state || is_running row.state))

no_work_above : (path : List ℕ) (row : Row) → is_before path row.from ≡ true → counted_work (Some path) row ≡ 0
no_work_above path row above = ap (λ (b : Bool). if b then 0 else work_of row.state) above

-- What a find leaves of counts: rows in front were above best neither before nor after, and the others are
-- above it from then on.
pub forget_counts : (all after : Counts) (best : Option (List ℕ)) (path : List ℕ) (front back : List Row) → AreCounted all best (front ++ back) → AreCounted after best back
    → All (λ row. is_above best row.from ≡ false) front → All (λ row. is_before path row.from ≡ false) front → All (λ row. is_before path row.from ≡ true) back
    → AreCounted (forgets all after) (Some path) (front ++ map (drop_above (Some path)) back)
forget_counts all after best path front back counted later not_old not_new above =
    let D : Row → Row = drop_above (Some path) in
    let zero' = sum_zero back in
    record {
      running = (
          let s = sum_by-append running_one front back in
          let t = sum_by-append running_one front (map D back) in
          let d = sum_dropped running_one running_one path back (λ row h. dropped_running path row.number row.from row.to row.state) above in
          omega (arith, s, t, d, counted.running)
          );
      queued = (
          let s = sum_by-append queued_one front back in
          let t = sum_by-append queued_one front (map D back) in
          let d = sum_dropped queued_one (λ (row : Row). 0) path back (λ row h. dropped_queued path row.number row.from row.to row.state h) above in
          omega (arith, s, t, d, zero', counted.queued, later.queued)
          );
      remaining = (
          let s = sum_by-append (open_one best) front back in
          let t = sum_by-append (open_one (Some path)) front (map D back) in
          let same = sum_same (open_one best) (open_one (Some path)) front
          (λ k d less. ap (λ (b : Bool). cond {A = ℕ} ((is_queued (get_or front k d).state || is_running (get_or front k d).state) && not b) 1 0) (not_old k d less ∙ sym (not_new k d less))) in
          let d = sum_dropped (open_one (Some path)) (λ (row : Row). 0) path back (λ row h. closed_above path (D row) (ap (is_before path) (drop_from (Some path) row) ∙ h)) above in
          omega (arith, s, t, same, d, zero', counted.remaining, later.remaining)
          );
      spent = (
          let s = sum_by-append (counted_work best) front back in
          let t = sum_by-append (counted_work (Some path)) front (map D back) in
          let same = sum_same (counted_work best) (counted_work (Some path)) front
          (λ k d less. ap (λ (b : Bool). if b then 0 else work_of (get_or front k d).state) (not_old k d less ∙ sym (not_new k d less))) in
          let d = sum_dropped (counted_work (Some path)) (λ (row : Row). 0) path back (λ row h. no_work_above path (D row) (ap (is_before path) (drop_from (Some path) row) ∙ h)) above in
          omega (arith, s, t, same, d, zero', counted.spent, later.spent)
          );
    }
