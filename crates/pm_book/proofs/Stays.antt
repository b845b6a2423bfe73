-- What tables keep, where rows take the place of a row.
use Rattle.std.proofs.Common.{◌≡◌, ℕ, zero, suc, ◌+◌, ◌-◌, ◌^◌, ◌<◌, ◌≤◌, ◌⊎◌, ◌∙◌, Bool, true, false, cond, List, [], ◌∷◌, ◌++◌, length, take, drop, map, refl, sym, ap, subst, inl, inr, arith, add-one, length-append}
use Rattle.std.specs.Prelude.{Option, Some, None, All, slice_get, if◌then◌else◌}
use Rattle.std.specs.Option.{option_to_list}
use Rattle.std.proofs.lemmas.List.{length-map}
use Rattle.std.proofs.lemmas.List.Sums.{count_by-le-length}
use Rattle.std.proofs.lemmas.List.Elements.{All-nil, All-cons, All-head, All-tail, All-append, All-map, All-take, All-drop, All-weaker}
use Rattle.pm_book.specs.declared.row.BookRow.{BookRow}
use Rattle.pm_book.specs.declared.row.RowState.TheVariants.{Dropped}
use Rattle.pm_book.specs.declared.event.Event.{Event}
use Rattle.pm_book.specs.declared.tables.Tables.{Tables}
use Rattle.pm_book.specs.declared.tables.Spot.{Spot}
use Rattle.pm_book.specs.declared.counts.Counts.{Counts}
use Rattle.pm_book.specs.Rows.{Row, is_queued, is_running, is_open}
use Rattle.pm_book.specs.Shown.{row_seen, IsCutPlace, HasPlaces}
use Rattle.pm_book.specs.Inside.Counted.{AreCounted, AreOfOne, AreSmall, ArePart, both}
use Rattle.pm_book.specs.Inside.Seen.{seen, best_seen, running_of, HasRoom, HasLowers, AreKept, IsNewRow, HasPut, dropped}
use Rattle.pm_book.proofs.Places.{split_at, seen_split, put_rows, put_best}
use Rattle.pm_book.proofs.Counted.{part_counted, one_running, put_counts, small_counts, small_others}

abbrev pub Rests : BookRow → Type 0
Rests row = is_queued row.state ≡ false

-- tables that hold the same keep the same
pub kept_same : (old new : Tables) → AreKept old → new.rows.items ≡ old.rows.items → new.cuts.items ≡ old.cuts.items → new.events.items ≡ old.events.items → new.lowers.items ≡ old.lowers.items → new.best ≡ old.best
    → new.counts ≡ old.counts → new.hint ≡ old.hint → HasRoom new new.counts.running → AreKept new
kept_same old new kept rows cuts events lowers best counts hint room =
    let best-is : (seen new).best ≡ (seen old).best = ap (λ (c : List (List ℕ)). best_seen c new.best) cuts ∙ ap (best_seen old.cuts.items) best in
    let rows-are : (seen new).rows ≡ (seen old).rows = ap (λ (c : List (List ℕ)). map (row_seen c) new.rows.items) cuts ∙ ap (map (row_seen old.cuts.items)) rows in
    record {
      places = subst (λ (c : List (List ℕ)). All (HasPlaces (length c)) new.rows.items) (sym cuts) (subst (All (HasPlaces (length old.cuts.items))) (sym rows) kept.places);
      best = subst (λ (c : List (List ℕ)). IsCutPlace (length c) new.best) (sym cuts) (subst (IsCutPlace (length old.cuts.items)) (sym best) kept.best);
      lowers = subst (λ (l : List (Option ℕ)). HasLowers l new.rows.items) (sym lowers) (subst (HasLowers old.lowers.items) (sym rows) kept.lowers);
      counted = subst (λ (n : Counts). AreCounted n (seen new).best (seen new).rows) (sym counts)
          (subst (λ (b : Option (List ℕ)). AreCounted old.counts b (seen new).rows) (sym best-is) (subst (AreCounted old.counts (seen old).best) (sym rows-are) kept.counted));
      few = (let a = ap (λ (n : Counts). n.spent) counts in let b = ap length events in omega (arith, a, b, kept.few));
      hint = subst (λ (n : ℕ). All Rests (take n new.rows.items)) (sym hint) (subst (λ (l : List BookRow). All Rests (take old.hint l)) (sym rows) kept.hint);
      room = room;
    }

-- the counts after `put`
pub counts_part : (t : Tables) (spot : Spot) (one : Counts) → AreKept t → slice_get t.rows.items spot.place ≡ Some spot.row → AreCounted one (seen t).best (row_seen t.cuts.items spot.row ∷ []) → ArePart one t.counts
counts_part t spot one kept there is =
    part_counted one t.counts (seen t).best (map (row_seen t.cuts.items) (take spot.place t.rows.items)) (row_seen t.cuts.items spot.row) (map (row_seen t.cuts.items) (drop (spot.place + 1) t.rows.items)) is
    (subst (λ (l : List Row). AreCounted t.counts (seen t).best l) (seen_split t.cuts.items t.rows.items spot there) kept.counted)

pub counts_after : (old new : Tables) (spot : Spot) (row : BookRow) (rest : List BookRow) (cut : Option (List ℕ)) (event : Event) (others one here more : Counts) → AreKept old → slice_get old.rows.items spot.place ≡ Some spot.row
    → HasPut old new spot.place (row ∷ rest) cut event → AreCounted one (seen old).best (row_seen old.cuts.items spot.row ∷ []) → both others one ≡ old.counts
    → AreCounted here (seen new).best (row_seen new.cuts.items row ∷ []) → AreCounted more (seen new).best (map (row_seen new.cuts.items) rest)
    → AreCounted (both (both others here) more) (seen new).best (seen new).rows
counts_after old new spot row rest cut event others one here more kept there put was e now later =
    let cuts = old.cuts.items in
    let more_cuts = cuts ++ option_to_list cut in
    let before : List Row = map (row_seen cuts) (take spot.place old.rows.items) in
    let after : List Row = map (row_seen cuts) (drop (spot.place + 1) old.rows.items) in
    let best-is = put_best old new spot.place (row ∷ rest) cut event kept put in
    let now' = subst (λ (c : List (List ℕ)). AreCounted here (seen old).best (row_seen c row ∷ [])) put.cuts_are (subst (λ (b : Option (List ℕ)). AreCounted here b (row_seen new.cuts.items row ∷ [])) best-is now) in
    let later' = subst (λ (c : List (List ℕ)). AreCounted more (seen old).best (map (row_seen c) rest)) put.cuts_are (subst (λ (b : Option (List ℕ)). AreCounted more b (map (row_seen new.cuts.items) rest)) best-is later) in
    subst (λ (l : List Row). AreCounted (both (both others here) more) (seen new).best l) (sym (put_rows old new spot.place (row ∷ rest) cut event kept put))
    (subst (λ (b : Option (List ℕ)). AreCounted (both (both others here) more) b (before ++ (map (row_seen more_cuts) (row ∷ rest) ++ after))) (sym best-is)
    (put_counts old.counts others one here more (seen old).best before (row_seen cuts spot.row) (row_seen more_cuts row) (map (row_seen more_cuts) rest) after
    (subst (λ (l : List Row). AreCounted old.counts (seen old).best l) (seen_split cuts old.rows.items spot there) kept.counted) was e now' later'))

-- they fit
pub put_small : (t : Tables) (others one : Counts) → AreKept t → both others one ≡ t.counts → length t.rows.items < 2 ^ 63 → length t.events.items < 2 ^ 63 → AreSmall others
put_small t others one kept e short few =
    let long = length-map t.rows.items (row_seen t.cuts.items) in
    small_others t.counts others one (small_counts t.counts (seen t).best (seen t).rows kept.counted (omega (arith, long, short)) (omega (arith, kept.few, few))) e

pub put_small_one : (t : Tables) (others one here : Counts) → AreKept t → both others one ≡ t.counts → length t.rows.items < 2 ^ 63 → length t.events.items < 2 ^ 63 → AreOfOne here → AreSmall (both others here)
put_small_one t others one here kept e short few is =
    let long = length-map t.rows.items (row_seen t.cuts.items) in
    let r = ap (λ (c : Counts). c.running) e in
    let q = ap (λ (c : Counts). c.queued) e in
    let m = ap (λ (c : Counts). c.remaining) e in
    let s = ap (λ (c : Counts). c.spent) e in
    record {
      running = (let l = count_by-le-length (λ (row : Row). is_running row.state) (seen t).rows in omega (arith, l, long, r, kept.counted.running, short, is.running));
      queued = (let l = count_by-le-length (λ (row : Row). is_queued row.state) (seen t).rows in omega (arith, l, long, q, kept.counted.queued, short, is.queued));
      remaining = (let l = count_by-le-length (is_open (seen t).best) (seen t).rows in omega (arith, l, long, m, kept.counted.remaining, short, is.remaining));
      spent = omega (arith, s, kept.few, few, is.spent);
    }

-- the number of Running rows after `put`
rest_runs : (best : Option (List ℕ)) (cuts : List (List ℕ)) (rest : Option BookRow) (count : ℕ) (more : Counts) → AreCounted more best (map (row_seen cuts) (option_to_list rest)) → All (IsNewRow count) (option_to_list rest) → more.running ≡ 0
rest_runs best cuts None count more is news = is.running
rest_runs best cuts (Some row) count more is news =
    one_running more best (row_seen cuts row) is ∙ ap (λ (b : Bool). cond {A = ℕ} b 1 0) (All-head (IsNewRow count) row [] news).rests

pub put_running : (old new : Tables) (spot : Spot) (row : BookRow) (rest : Option BookRow) (others one here more : Counts) → AreCounted one (seen old).best (row_seen old.cuts.items spot.row ∷ []) → both others one ≡ old.counts
    → AreCounted here (seen new).best (row_seen new.cuts.items row ∷ []) → AreCounted more (seen new).best (map (row_seen new.cuts.items) (option_to_list rest)) → All (IsNewRow (length old.rows.items)) (option_to_list rest)
    → (both (both others here) more).running ≡ old.counts.running + running_of row.state - running_of spot.row.state
put_running old new spot row rest others one here more was e now later news =
    let a : one.running ≡ running_of spot.row.state = one_running one (seen old).best (row_seen old.cuts.items spot.row) was in
    let b : here.running ≡ running_of row.state = one_running here (seen new).best (row_seen new.cuts.items row) now in
    let d = rest_runs (seen new).best new.cuts.items rest (length old.rows.items) more later news in
    let r = ap (λ (c : Counts). c.running) e in
    omega (arith, a, b, d, r)

-- an element stays where more come after it
get_more : {X : Type 0} (xs ys : List X) (k : ℕ) (x : X) → slice_get xs k ≡ Some x → slice_get (xs ++ ys) k ≡ Some x
get_more [] ys k x e = absurd cc
get_more (y ∷ xs) ys zero x e = e
get_more (y ∷ xs) ys (suc k) x e = get_more xs ys k x e

get_next : {X : Type 0} (xs : List X) (x : X) → slice_get (xs ++ x ∷ []) (length xs) ≡ Some x
get_next [] x = refl
get_next (y ∷ xs) x = get_next xs x

-- so many rows are there after `put`
pub put_count : (old new : Tables) (spot : Spot) (row : BookRow) (rest : List BookRow) (cut : Option (List ℕ)) (event : Event) → slice_get old.rows.items spot.place ≡ Some spot.row → HasPut old new spot.place (row ∷ rest) cut event
    → length new.rows.items ≡ length old.rows.items + length rest
put_count old new spot row rest cut event there put =
    let front = take spot.place old.rows.items in
    let back = drop (spot.place + 1) old.rows.items in
    let a = length-append front ((row ∷ rest) ++ back) in
    let b = length-append (row ∷ rest) back in
    let d : length old.rows.items ≡ length front + length (spot.row ∷ back) = ap length (split_at old.rows.items spot.place spot.row there) ∙ length-append front (spot.row ∷ back) in
    let e = add-one (length back) in
    let f = add-one (length rest) in
    omega (arith, ap length put.rows_are, a, b, d, e, f)

-- each number still has the lower end of its row
new_lowers : (lowers : List (Option ℕ)) (count : ℕ) (rest : Option BookRow) → length lowers ≡ count → All (IsNewRow count) (option_to_list rest)
    → All (λ row. slice_get (lowers ++ map (λ (r : BookRow). r.from) (option_to_list rest)) row.number ≡ Some row.from) (option_to_list rest)
new_lowers lowers count None long is = All-nil (λ (row : BookRow). slice_get (lowers ++ []) row.number ≡ Some row.from)
new_lowers lowers count (Some row) long is =
    let P : BookRow → Type 0 = λ r. slice_get (lowers ++ row.from ∷ []) r.number ≡ Some r.from in
    let number = (All-head (IsNewRow count) row [] is).number in
    All-cons P row [] (ap (slice_get (lowers ++ row.from ∷ [])) (number ∙ sym long) ∙ get_next lowers row.from) (All-nil P)

pub lowers_after : (old new : Tables) (spot : Spot) (row : BookRow) (rest : Option BookRow) (cut : Option (List ℕ)) (event : Event) → AreKept old → slice_get old.rows.items spot.place ≡ Some spot.row
    → HasPut old new spot.place (row ∷ option_to_list rest) cut event → (row.number ≡ spot.row.number) × (row.from ≡ spot.row.from) → All (IsNewRow (length old.rows.items)) (option_to_list rest)
    → new.lowers.items ≡ old.lowers.items ++ map (λ (r : BookRow). r.from) (option_to_list rest) → HasLowers new.lowers.items new.rows.items
lowers_after old new spot row rest cut event kept there put same is lowers-are =
    let lowers = old.lowers.items in
    let more = lowers ++ map (λ (r : BookRow). r.from) (option_to_list rest) in
    let P : BookRow → Type 0 = λ r. slice_get lowers r.number ≡ Some r.from in
    let Q : BookRow → Type 0 = λ r. slice_get more r.number ≡ Some r.from in
    let go : (r : BookRow) → P r → Q r = λ r e. get_more lowers (map (λ (x : BookRow). x.from) (option_to_list rest)) r.number r.from e in
    let all : All Q old.rows.items = All-weaker P Q go old.rows.items kept.lowers.each in
    let old_row : Q spot.row =
    All-head Q spot.row (drop (spot.place + 1) old.rows.items) (right (take spot.place old.rows.items) (spot.row ∷ drop (spot.place + 1) old.rows.items) Q (subst (All Q) (split_at old.rows.items spot.place spot.row there) all)) in
    let here : Q row = ap (slice_get more) same.0 ∙ old_row ∙ ap Some (sym same.1) in
    let whole : All Q (take spot.place old.rows.items ++ ((row ∷ option_to_list rest) ++ drop (spot.place + 1) old.rows.items)) =
    All-append Q (take spot.place old.rows.items) ((row ∷ option_to_list rest) ++ drop (spot.place + 1) old.rows.items) (All-take Q spot.place old.rows.items all)
    (All-cons Q row (option_to_list rest ++ drop (spot.place + 1) old.rows.items) here
    (All-append Q (option_to_list rest) (drop (spot.place + 1) old.rows.items) (new_lowers lowers (length old.rows.items) rest kept.lowers.as_many is) (All-drop Q (spot.place + 1) old.rows.items all))) in
    let count = put_count old new spot row (option_to_list rest) cut event there put in
    record {
      as_many = (
          let a = length-append lowers (map (λ (r : BookRow). r.from) (option_to_list rest)) in
          let b = mapped rest in
          omega (arith, ap length lowers-are, a, b, count, kept.lowers.as_many)
          );
      each = subst (λ (l : List (Option ℕ)). All (λ (r : BookRow). slice_get l r.number ≡ Some r.from) new.rows.items) (sym lowers-are) (subst (All Q) (sym put.rows_are) whole);
    }
  where
    mapped : (o : Option BookRow) → length (map (λ (r : BookRow). r.from) (option_to_list o)) ≡ length (option_to_list o)
    mapped None = refl
    mapped (Some r) = refl

    right : (xs ys : List BookRow) (Q : BookRow → Type 0) → All Q (xs ++ ys) → All Q ys
    right [] ys Q all = all
    right (x ∷ xs) ys Q all = right xs ys Q (All-tail Q x (xs ++ ys) all)

-- no row before the hint is Queued
fewer : (P : BookRow → Type 0) (m n : ℕ) (xs : List BookRow) → m ≤ n → All P (take n xs) → All P (take m xs)
fewer P zero n xs less all = All-nil P
fewer P (suc m) n [] less all = All-nil P
fewer P (suc m) zero (x ∷ xs) less all = absurd (omega arith)
fewer P (suc m) (suc n) (x ∷ xs) less all = All-cons P x (take m xs) (All-head P x (take n xs) all) (fewer P m n xs (omega arith) (All-tail P x (take n xs) all))

in_front : (h p : ℕ) (xs ys : List BookRow) → h ≤ p → p ≤ length xs → take h (take p xs ++ ys) ≡ take h xs
in_front zero p xs ys less within = refl
in_front (suc h) zero xs ys less within = absurd (omega arith)
in_front (suc h) (suc p) [] ys less within = absurd (omega arith)
in_front (suc h) (suc p) (x ∷ xs) ys less within = ap (λ (l : List BookRow). x ∷ l) (in_front h p xs ys (omega arith) (omega arith))

written : (P : BookRow → Type 0) (h p : ℕ) (xs : List BookRow) (row : BookRow) → p < length xs → P row → All P (take h xs) → All P (take h (take p xs ++ (row ∷ drop (suc p) xs)))
written P zero p xs row within here all = All-nil P
written P (suc h) p [] row within here all = absurd (omega arith)
written P (suc h) zero (x ∷ xs) row within here all = All-cons P row (take h xs) here (All-tail P x (take h xs) all)
written P (suc h) (suc p) (x ∷ xs) row within here all =
    All-cons P x (take h (take p xs ++ (row ∷ drop (suc p) xs))) (All-head P x (take h xs) all) (written P h p xs row (omega arith) here (All-tail P x (take h xs) all))

pub hint_after : (old new : Tables) (spot : Spot) (row : BookRow) (rest : Option BookRow) (cut : Option (List ℕ)) (event : Event) (hint : ℕ) → AreKept old → spot.place < length old.rows.items
    → HasPut old new spot.place (row ∷ option_to_list rest) cut event → ((hint ≤ old.hint) × (hint ≤ spot.place)) ⊎ ((is_queued row.state ≡ false) × (rest ≡ None) × (hint ≡ old.hint))
    → All (λ r. is_queued r.state ≡ false) (take hint new.rows.items)
hint_after old new spot row rest cut event hint kept within put (inl low) =
    subst (λ (l : List BookRow). All Rests (take hint l)) (sym put.rows_are)
    (subst (All Rests) (sym (in_front hint spot.place old.rows.items ((row ∷ option_to_list rest) ++ drop (spot.place + 1) old.rows.items) low.1 (omega (arith, within)))) (fewer Rests hint old.hint old.rows.items low.0 kept.hint))
hint_after old new spot row rest cut event hint kept within put (inr same) =
    let rows-are : new.rows.items ≡ take spot.place old.rows.items ++ (row ∷ drop (suc spot.place) old.rows.items) =
    put.rows_are ∙ ap (λ (o : Option BookRow). take spot.place old.rows.items ++ ((row ∷ option_to_list o) ++ drop (spot.place + 1) old.rows.items)) same.1
    ∙ ap (λ (n : ℕ). take spot.place old.rows.items ++ (row ∷ drop n old.rows.items)) (add-one spot.place) in
    subst (λ (n : ℕ). All Rests (take n new.rows.items)) (sym same.2)
    (subst (λ (l : List BookRow). All Rests (take old.hint l)) (sym rows-are) (written Rests old.hint spot.place old.rows.items row within same.0 kept.hint))

-- the same where Queued rows are dropped from a place on
dropped_rests : (row : BookRow) → is_queued (dropped row).state ≡ false
dropped_rests row = by (is_queued row.state) refl
  where
    by : (b : Bool) → is_queued row.state ≡ b → is_queued (if b then record row { state = Dropped } else row).state ≡ false
    by true e = refl
    by false e = e

all_rest : (rows : List BookRow) → All Rests (map dropped rows)
all_rest [] = All-nil Rests
all_rest (x ∷ xs) = All-cons Rests (dropped x) (map dropped xs) (dropped_rests x) (all_rest xs)

pub hint_dropped : (h first : ℕ) (xs : List BookRow) → All Rests (take h xs) → All Rests (take h (take first xs ++ map dropped (drop first xs)))
hint_dropped zero first xs all = All-nil Rests
hint_dropped (suc h) zero xs all = All-take Rests (suc h) (map dropped xs) (all_rest xs)
hint_dropped (suc h) (suc first) [] all = All-nil Rests
hint_dropped (suc h) (suc first) (x ∷ xs) all =
    All-cons Rests x (take h (take first xs ++ map dropped (drop first xs))) (All-head Rests x (take h xs) all) (hint_dropped h first xs (All-tail Rests x (take h xs) all))

dropped_number : (row : BookRow) → ((dropped row).number ≡ row.number) × ((dropped row).from ≡ row.from)
dropped_number row =
    elim (is_queued row.state) as (λ b. ((if b then record row { state = Dropped } else row).number ≡ row.number) × ((if b then record row { state = Dropped } else row).from ≡ row.from)) [ true ↦ (refl, refl) | false ↦ (refl, refl) ]

pub lowers_dropped : (lowers : List (Option ℕ)) (first : ℕ) (rows : List BookRow) → HasLowers lowers rows → length (take first rows ++ map dropped (drop first rows)) ≡ length rows
    → HasLowers lowers (take first rows ++ map dropped (drop first rows))
lowers_dropped lowers first rows has long =
    let P : BookRow → Type 0 = λ r. slice_get lowers r.number ≡ Some r.from in
    let back = drop first rows in
    record {
      as_many = has.as_many ∙ sym long;
      each = All-append P (take first rows) (map dropped back) (All-take P first rows has.each)
          (All-map P dropped back (All-weaker P (λ (r : BookRow). P (dropped r)) (λ r e. let d = dropped_number r in ap (slice_get lowers) d.0 ∙ e ∙ ap Some (sym d.1)) back (All-drop P first rows has.each)));
    }
