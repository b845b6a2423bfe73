-- Rows by their places: a spot, what stands before it and after it, and what they stand for.
use Rattle.std.proofs.Common.{◌≡◌, ℕ, zero, suc, ◌+◌, ◌≤◌, ◌∙◌, Bool, true, false, cond, List, [], ◌∷◌, ◌++◌, length, take, drop, map, refl, sym, ap, subst, arith, add-one, length-append}
use Rattle.std.specs.Prelude.{Option, Some, None, All, slice_get, option_map}
use Rattle.std.specs.List.{find}
use Rattle.std.specs.Option.{option_to_list, option_and_then}
use Rattle.std.proofs.lemmas.List.{map-append, get_or_append_left}
use Rattle.std.proofs.lemmas.List.Elements.{All-nil, All-cons, All-head, All-tail, All-append, All-take, All-drop, All-weaker}
use Rattle.pm_choice.specs.declared.Bound.TheVariants.{At}
use Rattle.pm_book.specs.declared.row.BookRow.{BookRow}
use Rattle.pm_book.specs.declared.event.Event.{Event}
use Rattle.pm_book.specs.declared.tables.Tables.{Tables}
use Rattle.pm_book.specs.declared.tables.Spot.{Spot}
use Rattle.pm_book.specs.Rows.{Row, BookState}
use Rattle.pm_book.specs.Steps.{is_about, parts_after, new_best, with_best, recorded, replace_first, step, step_at}
use Rattle.pm_book.specs.Shown.{lower, upper, row_seen, IsCutPlace, HasPlaces}
use Rattle.pm_book.specs.Inside.Seen.{seen, best_seen, AreKept, IsFirstSpot, HasPut}

-- a list is what stands before an element, the element, and what stands after it
split_suc : {X : Type 0} → (xs : List X) (place : ℕ) (x : X) → slice_get xs place ≡ Some x → xs ≡ take place xs ++ (x ∷ drop (suc place) xs)
split_suc [] place x e = absurd cc
split_suc (y ∷ ys) zero x e = let same : y ≡ x = cc in ap (λ z. z ∷ ys) same
split_suc (y ∷ ys) (suc place) x e = ap (λ l. y ∷ l) (split_suc ys place x e)

pub split_at : {X : Type 0} → (xs : List X) (place : ℕ) (x : X) → slice_get xs place ≡ Some x → xs ≡ take place xs ++ (x ∷ drop (place + 1) xs)
split_at xs place x e = subst (λ (n : ℕ). xs ≡ take place xs ++ (x ∷ drop n xs)) (sym (add-one place)) (split_suc xs place x e)

-- the first row that passes a test is found, and gives way
pub find_at : (test : Row → Bool) (before : List Row) (row : Row) (after : List Row) → All (λ r. test r ≡ false) before → test row ≡ true → find test (before ++ (row ∷ after)) ≡ Some row
find_at test [] row after none passes = ap (λ (b : Bool). cond b (Some row) (find test after)) passes
find_at test (x ∷ xs) row after none passes =
    ap (λ (b : Bool). cond b (Some x) (find test (xs ++ (row ∷ after)))) (All-head (λ r. test r ≡ false) x xs none) ∙ find_at test xs row after (All-tail (λ r. test r ≡ false) x xs none) passes

pub replace_at : (test : Row → Bool) (before : List Row) (row : Row) (after parts : List Row) → All (λ r. test r ≡ false) before → test row ≡ true
    → replace_first test parts (before ++ (row ∷ after)) ≡ before ++ (parts ++ after)
replace_at test [] row after parts none passes = ap (λ (b : Bool). cond b (parts ++ after) (row ∷ replace_first test parts after)) passes
replace_at test (x ∷ xs) row after parts none passes =
    ap (λ (b : Bool). cond b (parts ++ (xs ++ (row ∷ after))) (x ∷ replace_first test parts (xs ++ (row ∷ after)))) (All-head (λ r. test r ≡ false) x xs none)
    ∙ ap (λ (l : List Row). x ∷ l) (replace_at test xs row after parts (All-tail (λ r. test r ≡ false) x xs none) passes)

pub find_none : (test : Row → Bool) (rows : List Row) → All (λ r. test r ≡ false) rows → find test rows ≡ None
find_none test [] none = refl
find_none test (x ∷ xs) none = ap (λ (b : Bool). cond b (Some x) (find test xs)) (All-head (λ r. test r ≡ false) x xs none) ∙ find_none test xs (All-tail (λ r. test r ≡ false) x xs none)

-- what a step makes, where the row of its event is known
pub step_made : (book : BookState) (event : Event) (cut : Option (List ℕ)) (before : List Row) (row : Row) (after parts : List Row)
    → book.rows ≡ before ++ (row ∷ after) → All (λ r. is_about event r ≡ false) before → is_about event row ≡ true → parts_after book event cut row ≡ Some parts
    → step book event cut ≡ Some (with_best (new_best book event cut row) (recorded book event cut (before ++ (parts ++ after))))
step_made book event cut before row after parts is none passes made =
    ap (option_and_then (step_at book event cut)) (ap (find (is_about event)) is ∙ find_at (is_about event) before row after none passes)
    ∙ ap (option_map (λ (ps : List Row). with_best (new_best book event cut row) (recorded book event cut (replace_first (is_about event) ps book.rows)))) made
    ∙ ap (λ (rows : List Row). Some (with_best (new_best book event cut row) (recorded book event cut rows))) (ap (replace_first (is_about event) parts) is ∙ replace_at (is_about event) before row after parts none passes)

-- an event that fits no row, or not its row, is no step
pub no_row : (book : BookState) (event : Event) (cut : Option (List ℕ)) → All (λ r. is_about event r ≡ false) book.rows → step book event cut ≡ None
no_row book event cut none = ap (option_and_then (step_at book event cut)) (find_none (is_about event) book.rows none)

pub no_parts : (book : BookState) (event : Event) (cut : Option (List ℕ)) (before : List Row) (row : Row) (after : List Row)
    → book.rows ≡ before ++ (row ∷ after) → All (λ r. is_about event r ≡ false) before → is_about event row ≡ true → parts_after book event cut row ≡ None → step book event cut ≡ None
no_parts book event cut before row after is none passes made =
    ap (option_and_then (step_at book event cut)) (ap (find (is_about event)) is ∙ find_at (is_about event) before row after none passes)
    ∙ ap (option_map (λ (ps : List Row). with_best (new_best book event cut row) (recorded book event cut (replace_first (is_about event) ps book.rows)))) made

-- more cuts change nothing for rows whose places are among the cuts
pub lower_more : (cuts more : List (List ℕ)) (place : Option ℕ) → IsCutPlace (length cuts) place → lower (cuts ++ more) place ≡ lower cuts place
lower_more cuts more None is = refl
lower_more cuts more (Some place) is = get_or_append_left cuts more [] place is

pub upper_more : (cuts more : List (List ℕ)) (place : Option ℕ) → IsCutPlace (length cuts) place → upper (cuts ++ more) place ≡ upper cuts place
upper_more cuts more None is = refl
upper_more cuts more (Some place) is = ap At (get_or_append_left cuts more [] place is)

pub best_more : (cuts more : List (List ℕ)) (place : Option ℕ) → IsCutPlace (length cuts) place → best_seen (cuts ++ more) place ≡ best_seen cuts place
best_more cuts more None is = refl
best_more cuts more (Some place) is = ap Some (get_or_append_left cuts more [] place is)

pub row_more : (cuts more : List (List ℕ)) (row : BookRow) → HasPlaces (length cuts) row → row_seen (cuts ++ more) row ≡ row_seen cuts row
row_more cuts more row has = let a = lower_more cuts more row.from has.from in let b = upper_more cuts more row.to has.to in cc

pub rows_more : (cuts more : List (List ℕ)) (rows : List BookRow) → All (HasPlaces (length cuts)) rows → map (row_seen (cuts ++ more)) rows ≡ map (row_seen cuts) rows
rows_more cuts more [] has = refl
rows_more cuts more (x ∷ xs) has =
    let a = row_more cuts more x (All-head (HasPlaces (length cuts)) x xs has) in
    let b = rows_more cuts more xs (All-tail (HasPlaces (length cuts)) x xs has) in
    cc

place_more : (m n : ℕ) (place : Option ℕ) → m ≤ n → IsCutPlace m place → IsCutPlace n place
place_more m n None more is = tt
place_more m n (Some place) more is = omega arith

pub places_more : (m n : ℕ) → m ≤ n → (row : BookRow) → HasPlaces m row → HasPlaces n row
places_more m n more row has = record { from = place_more m n row.from more has.from; to = place_more m n row.to more has.to }

pub same_state : (a b : BookState) → a.rows ≡ b.rows → a.best ≡ b.best → a.budget ≡ b.budget → a.cuts ≡ b.cuts → a.events ≡ b.events → a ≡ b
same_state a b rows best budget cuts events =
    let step1 : a ≡ record a { rows = b.rows } = ap (λ (x : List Row). record a { rows = x }) rows in
    let step2 : record a { rows = b.rows } ≡ record a { rows = b.rows; best = b.best } = ap (λ (x : Option (List ℕ)). record a { rows = b.rows; best = x }) best in
    let step3 : record a { rows = b.rows; best = b.best } ≡ record a { rows = b.rows; best = b.best; budget = b.budget } = ap (λ (x : ℕ). record a { rows = b.rows; best = b.best; budget = x }) budget in
    let step4 : record a { rows = b.rows; best = b.best; budget = b.budget } ≡ record a { rows = b.rows; best = b.best; budget = b.budget; cuts = b.cuts } = ap (λ (x : List (List ℕ)). record a { rows = b.rows; best = b.best; budget = b.budget; cuts = x }) cuts in
    let step5 : record a { rows = b.rows; best = b.best; budget = b.budget; cuts = b.cuts } ≡ b = ap (λ (x : List Event). record a { rows = b.rows; best = b.best; budget = b.budget; cuts = b.cuts; events = x }) events in
    step1 ∙ step2 ∙ step3 ∙ step4 ∙ step5

-- the rows that tables stand for, around a spot
pub seen_split : (cuts : List (List ℕ)) (rows : List BookRow) (spot : Spot) → slice_get rows spot.place ≡ Some spot.row
    → map (row_seen cuts) rows ≡ map (row_seen cuts) (take spot.place rows) ++ (row_seen cuts spot.row ∷ map (row_seen cuts) (drop (spot.place + 1) rows))
seen_split cuts rows spot there =
    ap (map (row_seen cuts)) (split_at rows spot.place spot.row there) ∙ map-append (row_seen cuts) (take spot.place rows) (spot.row ∷ drop (spot.place + 1) rows)

-- a test of rows and a test of what they stand for
pub all_seen : (cuts : List (List ℕ)) (test : BookRow → Bool) (seen_test : Row → Bool) → ((r : BookRow) → seen_test (row_seen cuts r) ≡ test r)
    → (rows : List BookRow) → All (λ r. test r ≡ false) rows → All (λ r. seen_test r ≡ false) (map (row_seen cuts) rows)
all_seen cuts test seen_test same [] none = All-nil (λ (r : Row). seen_test r ≡ false)
all_seen cuts test seen_test same (x ∷ xs) none =
    All-cons (λ (r : Row). seen_test r ≡ false) (row_seen cuts x) (map (row_seen cuts) xs) (same x ∙ All-head (λ r. test r ≡ false) x xs none)
    (all_seen cuts test seen_test same xs (All-tail (λ r. test r ≡ false) x xs none))

-- the rows after `put`
pub put_rows : (old new : Tables) (place : ℕ) (rows : List BookRow) (cut : Option (List ℕ)) (event : Event) → AreKept old → HasPut old new place rows cut event
    → (seen new).rows ≡ map (row_seen old.cuts.items) (take place old.rows.items) ++ (map (row_seen (old.cuts.items ++ option_to_list cut)) rows ++ map (row_seen old.cuts.items) (drop (place + 1) old.rows.items))
put_rows old new place rows cut event kept put =
    let cuts = old.cuts.items in
    let f : BookRow → Row = row_seen (cuts ++ option_to_list cut) in
    let front = take place old.rows.items in
    let back = drop (place + 1) old.rows.items in
    ap (λ (c : List (List ℕ)). map (row_seen c) new.rows.items) put.cuts_are ∙ ap (map f) put.rows_are ∙ map-append f front (rows ++ back)
    ∙ ap (λ (l : List Row). map f front ++ l) (map-append f rows back)
    ∙ ap (λ (l : List Row). l ++ (map f rows ++ map f back)) (rows_more cuts (option_to_list cut) front (All-take (HasPlaces (length cuts)) place old.rows.items kept.places))
    ∙ ap (λ (l : List Row). map (row_seen cuts) front ++ (map f rows ++ l)) (rows_more cuts (option_to_list cut) back (All-drop (HasPlaces (length cuts)) (place + 1) old.rows.items kept.places))

pub put_best : (old new : Tables) (place : ℕ) (rows : List BookRow) (cut : Option (List ℕ)) (event : Event) → AreKept old → HasPut old new place rows cut event → (seen new).best ≡ (seen old).best
put_best old new place rows cut event kept put =
    ap (λ (c : List (List ℕ)). best_seen c new.best) put.cuts_are ∙ ap (best_seen (old.cuts.items ++ option_to_list cut)) put.best_is ∙ best_more old.cuts.items (option_to_list cut) old.best kept.best

pub seen_put : (old new : Tables) (place : ℕ) (rows : List BookRow) (cut : Option (List ℕ)) (event : Event) → AreKept old → HasPut old new place rows cut event
    → seen new ≡ recorded (seen old) event cut (map (row_seen old.cuts.items) (take place old.rows.items) ++ (map (row_seen (old.cuts.items ++ option_to_list cut)) rows ++ map (row_seen old.cuts.items) (drop (place + 1) old.rows.items)))
seen_put old new place rows cut event kept put =
    same_state (seen new) (recorded (seen old) event cut (map (row_seen old.cuts.items) (take place old.rows.items) ++ (map (row_seen (old.cuts.items ++ option_to_list cut)) rows ++ map (row_seen old.cuts.items) (drop (place + 1) old.rows.items))))
    (put_rows old new place rows cut event kept put) (put_best old new place rows cut event kept put) put.budget_is put.cuts_are put.events_are

-- The event about a spot's row is a step to what `put` left, where the rows that it put are those that the
-- event makes.
pub put_step : (old new : Tables) (spot : Spot) (test : BookRow → Bool) (rows : List BookRow) (cut : Option (List ℕ)) (event : Event)
    → AreKept old → IsFirstSpot test old.rows.items spot → ((r : BookRow) → is_about event (row_seen old.cuts.items r) ≡ test r) → HasPut old new spot.place rows cut event
    → parts_after (seen old) event cut (row_seen old.cuts.items spot.row) ≡ Some (map (row_seen (old.cuts.items ++ option_to_list cut)) rows)
    → step (seen old) event cut ≡ Some (with_best (new_best (seen old) event cut (row_seen old.cuts.items spot.row)) (seen new))
put_step old new spot test rows cut event kept first about put made =
    let cuts = old.cuts.items in
    let made' = step_made (seen old) event cut (map (row_seen cuts) (take spot.place old.rows.items)) (row_seen cuts spot.row) (map (row_seen cuts) (drop (spot.place + 1) old.rows.items))
    (map (row_seen (cuts ++ option_to_list cut)) rows) (seen_split cuts old.rows.items spot first.there)
    (all_seen cuts test (is_about event) about (take spot.place old.rows.items) first.first) (about spot.row ∙ first.passes) made in
    made' ∙ ap (λ (b : BookState). Some (with_best (new_best (seen old) event cut (row_seen cuts spot.row)) b)) (sym (seen_put old new spot.place rows cut event kept put))

pub places_after : (old new : Tables) (place : ℕ) (rows : List BookRow) (cut : Option (List ℕ)) (event : Event) → AreKept old → HasPut old new place rows cut event
    → All (HasPlaces (length old.cuts.items + length (option_to_list cut))) rows → All (HasPlaces (length new.cuts.items)) new.rows.items
places_after old new place rows cut event kept put has =
    let total : length new.cuts.items ≡ length old.cuts.items + length (option_to_list cut) = ap length put.cuts_are ∙ length-append old.cuts.items (option_to_list cut) in
    let more : length old.cuts.items ≤ length old.cuts.items + length (option_to_list cut) = omega arith in
    let all : All (HasPlaces (length old.cuts.items + length (option_to_list cut))) old.rows.items =
    All-weaker (HasPlaces (length old.cuts.items)) (HasPlaces (length old.cuts.items + length (option_to_list cut))) (places_more (length old.cuts.items) (length old.cuts.items + length (option_to_list cut)) more) old.rows.items kept.places in
    let whole : All (HasPlaces (length old.cuts.items + length (option_to_list cut))) (take place old.rows.items ++ (rows ++ drop (place + 1) old.rows.items)) =
    All-append (HasPlaces (length old.cuts.items + length (option_to_list cut))) (take place old.rows.items) (rows ++ drop (place + 1) old.rows.items)
    (All-take (HasPlaces (length old.cuts.items + length (option_to_list cut))) place old.rows.items all)
    (All-append (HasPlaces (length old.cuts.items + length (option_to_list cut))) rows (drop (place + 1) old.rows.items) has (All-drop (HasPlaces (length old.cuts.items + length (option_to_list cut))) (place + 1) old.rows.items all)) in
    subst (λ (n : ℕ). All (HasPlaces n) new.rows.items) (sym total) (subst (λ (l : List BookRow). All (HasPlaces (length old.cuts.items + length (option_to_list cut))) l) (sym put.rows_are) whole)

pub best_place_after : (old new : Tables) (place : ℕ) (rows : List BookRow) (cut : Option (List ℕ)) (event : Event) → AreKept old → HasPut old new place rows cut event → IsCutPlace (length new.cuts.items) new.best
best_place_after old new place rows cut event kept put =
    let total : length new.cuts.items ≡ length old.cuts.items + length (option_to_list cut) = ap length put.cuts_are ∙ length-append old.cuts.items (option_to_list cut) in
    subst (λ (b : Option ℕ). IsCutPlace (length new.cuts.items) b) (sym put.best_is)
    (place_more (length old.cuts.items) (length new.cuts.items) old.best (omega (arith, total)) kept.best)
