-- What always holds of a book: queued and dropped rows, best, and all of it after each list of events.
use Rattle.std.proofs.Common.{◌≡◌, ℕ, ◌∙◌, Bool, true, false, List, [], ◌∷◌, ◌++◌, length, map, refl, sym, ap, subst, inl, inr, arith, get_or}
use Rattle.std.specs.Prelude.{Option, Some, None, All, Contains, nat_lt, if◌then◌else◌}
use Rattle.std.proofs.lemmas.List.{map-append}
use Rattle.std.proofs.lemmas.List.Elements.{All-nil, All-cons, All-append, All-map, Contains-append_left, Contains-append_right}
use Rattle.std.proofs.lemmas.Bool.Decides.{nat_tests}
use Rattle.pm_choice.specs.declared.Bound.{Bound}
use Rattle.pm_choice.specs.declared.Bound.TheVariants.{At, End}
use Rattle.pm_book.specs.declared.row.RowState.{RowState}
use Rattle.pm_book.specs.declared.row.RowState.TheVariants.{Queued, Running, Done, Dropped}
use Rattle.pm_book.specs.declared.event.Event.{Event}
use Rattle.pm_book.specs.Rows.{Row, BookState, Tile, is_queued, is_running, is_found, is_above, count_of}
use Rattle.pm_book.specs.Steps.{new_book, with_state, part_below, part_from, drop_above, with_best, recorded, step, replayed, cut_of, is_about}
use Rattle.pm_book.specs.Always.{IsPlaced, HasBest, AlwaysHolds, Covers, EachReplayHolds, EachListIsInOneRow, EachEventCoversItsRow}
use Rattle.pm_book.proofs.OrderTests.{before_is, above_more}
use Rattle.pm_book.proofs.Tiles.{tile_round, TilesRound, ends_before, begins_after, none_empty, in_one, covers}
use Rattle.pm_book.proofs.Changes.{Change, IsAllowed, parts_of, best_of, change_of, first_found, Stepped, stepped}
use Rattle.pm_book.proofs.Changes.Change.{starts, divides, drops, requeues, gives_back, closes, finds}
use Rattle.pm_book.proofs.Kept.{changed_rows, rows_after, best_after, tile_after, parts_tile, numbered_after, running_is, all_left, all_right, where_in, best_beyond}

abbrev Placed : Option (List ℕ) → Row → Type 0
Placed best row = IsPlaced best row.from row.state

running_placed : (best : Option (List ℕ)) (from : List ℕ) (state : RowState) → is_running state ≡ true → IsPlaced best from state
running_placed best from (Running worker) e = tt
running_placed best from Queued e = absurd cc
running_placed best from (Done work found) e = absurd cc
running_placed best from Dropped e = absurd cc

-- once a Queued row above best is dropped, a row is placed, if it was above best where it was dropped already
drop_placed : (best : Option (List ℕ)) (number : ℕ) (from : List ℕ) (to : Bound) (state : RowState) → (state ≡ Dropped → is_above best from ≡ true)
    → Placed best (drop_above best (record { number = number; from = from; to = to; state = state }))
drop_placed best number from to Queued dropped = by (is_above best from) refl
  where
    by : (b : Bool) → is_above best from ≡ b → Placed best (if b then record { number = number; from = from; to = to; state = Dropped } else record { number = number; from = from; to = to; state = Queued })
    by true e = e
    by false e = e
drop_placed best number from to (Running worker) dropped = tt
drop_placed best number from to (Done work found) dropped = tt
drop_placed best number from to Dropped dropped = dropped refl

-- what was dropped was above best
dropped_above : (best : Option (List ℕ)) (from : List ℕ) (state : RowState) → IsPlaced best from state → state ≡ Dropped → is_above best from ≡ true
dropped_above best from state placed e = subst (λ (s : RowState). IsPlaced best from s) e placed

pub one : (P : Row → Type 0) (row : Row) → P row → All P (row ∷ [])
one P row holds = All-cons P row [] holds (All-nil P)

pub two : (P : Row → Type 0) (row other : Row) → P row → P other → All P (row ∷ other ∷ [])
two P row other holds holds' = All-cons P row (other ∷ []) holds (one P other holds')

-- the rows after a change without a new best path
pub among : (P : Row → Type 0) (book : BookState) (change : Change) (row : Row) (before after : List Row) → book.rows ≡ before ++ row ∷ after → All P book.rows → All P (parts_of book change row) → All P (changed_rows book change row before after)
among P book change row before after is all parts =
    let all' : All P (before ++ row ∷ after) = subst (λ (l : List Row). All P l) is all in
    All-append P before (parts_of book change row ++ after) (all_left P before (row ∷ after) all')
    (All-append P (parts_of book change row) after parts (all_right P (row ∷ []) after (all_right P before (row ∷ after) all')))

-- with a new best path, the rows that are above it are dropped
found_placed : (book : BookState) (path : List ℕ) (work : ℕ) (row : Row) (before after : List Row) → book.rows ≡ before ++ row ∷ after → TilesRound (At []) End before row after
    → IsAllowed book (finds path work) row → All (Placed book.best) book.rows → All (Placed (Some path)) (rows_after book (finds path work) row before after)
found_placed book path work row before after is round may placed =
    let placed' : All (Placed book.best) (before ++ row ∷ after) = subst (λ (l : List Row). All (Placed book.best) l) is placed in
    let old : All (Placed book.best) before = all_left (Placed book.best) before (row ∷ after) placed' in
    let ends = ends_before (At []) (At row.from) before round.left in
    let full = none_empty (At []) (At row.from) before round.left in
    let begins = begins_after row.to End after round.right in
    let P : Row → Type 0 = λ y. Placed (Some path) (drop_above (Some path) y) in
    All-map (Placed (Some path)) (drop_above (Some path)) (changed_rows book (finds path work) row before after)
    (All-append P before (with_state (Done work true) row ∷ after)
    (λ k d less. drop_placed (Some path) (get_or before k d).number (get_or before k d).from (get_or before k d).to (get_or before k d).state
    (λ e. absurd (let above = above_more book.best (get_or before k d).from row.from (dropped_above book.best (get_or before k d).from (get_or before k d).state (old k d less) e) (ends k d less (get_or before k d).from (full k d less)) in
    let not_above = may.1 in cc)))
    (All-cons P (with_state (Done work true) row) after tt
    (λ k d less. drop_placed (Some path) (get_or after k d).number (get_or after k d).from (get_or after k d).to (get_or after k d).state
    (λ e. (before_is path (get_or after k d).from).1 (begins k d less path may.2.below)))))

placed_after : (book : BookState) (change : Change) (row : Row) (before after : List Row) → book.rows ≡ before ++ row ∷ after → TilesRound (At []) End before row after
    → IsAllowed book change row → AlwaysHolds book → All (Placed (best_after book change)) (rows_after book change row before after)
placed_after book (starts worker) row before after is round may always =
    among (Placed book.best) book (starts worker) row before after is always.placed (one (Placed book.best) (with_state (Running worker) row) tt)
placed_after book (divides cut) row before after is round may always =
    among (Placed book.best) book (divides cut) row before after is always.placed
    (two (Placed book.best) (part_below cut row.state row) (drop_above book.best (part_from cut (length book.rows) row))
    (running_placed book.best row.from row.state may.0)
    (drop_placed book.best (length book.rows) cut row.to Queued (λ e. absurd cc)))
placed_after book drops row before after is round may always =
    among (Placed book.best) book drops row before after is always.placed (one (Placed book.best) (with_state Dropped row) may.1)
placed_after book requeues row before after is round may always =
    among (Placed book.best) book requeues row before after is always.placed (one (Placed book.best) (with_state Queued row) may.1)
placed_after book (gives_back cut work) row before after is round may always =
    among (Placed book.best) book (gives_back cut work) row before after is always.placed
    (two (Placed book.best) (part_below cut (Done work false) row) (part_from cut (length book.rows) row) tt
    (best_beyond book row before after is round always.best may.0 may.1 cut may.3))
placed_after book (closes work) row before after is round may always =
    among (Placed book.best) book (closes work) row before after is always.placed (one (Placed book.best) (with_state (Done work false) row) tt)
placed_after book (finds path work) row before after is round may always =
    found_placed book path work row before after is round may always.placed

queued_is : (state : RowState) → is_queued state ≡ true → is_found state ≡ false
queued_is Queued e = refl
queued_is (Running worker) e = absurd cc
queued_is (Done work found) e = absurd cc
queued_is Dropped e = absurd cc

-- a row that an event may change wasn't found
pub not_found : (book : BookState) (change : Change) (row : Row) → IsAllowed book change row → is_found row.state ≡ false
not_found book (starts worker) row may = queued_is row.state may
not_found book (divides cut) row may = (running_is row.state may.0).0
not_found book drops row may = (running_is row.state may.0).0
not_found book requeues row may = (running_is row.state may.0).0
not_found book (gives_back cut work) row may = (running_is row.state may.0).0
not_found book (closes work) row may = (running_is row.state may.0).0
not_found book (finds path work) row may = (running_is row.state may.0).0

abbrev Unfound : Row → Type 0
Unfound row = is_found row.state ≡ false

drop_unfound : (best : Option (List ℕ)) (number : ℕ) (from : List ℕ) (to : Bound) → Unfound (drop_above best (record { number = number; from = from; to = to; state = Queued }))
drop_unfound best number from to =
    elim (is_above best from) as (λ b. Unfound (if b then record { number = number; from = from; to = to; state = Dropped } else record { number = number; from = from; to = to; state = Queued })) [ true ↦ refl | false ↦ refl ]

-- whether a change finds a path
abbrev Stays : Change → Type 0
Stays (finds path work) = ⊥
Stays change = Unit {0}

parts_unfound : (book : BookState) (change : Change) (row : Row) → Stays change → IsAllowed book change row → All Unfound (parts_of book change row)
parts_unfound book (starts worker) row stays may = one Unfound (with_state (Running worker) row) refl
parts_unfound book (divides cut) row stays may =
    two Unfound (part_below cut row.state row) (drop_above book.best (part_from cut (length book.rows) row)) (running_is row.state may.0).0 (drop_unfound book.best (length book.rows) cut row.to)
parts_unfound book drops row stays may = one Unfound (with_state Dropped row) refl
parts_unfound book requeues row stays may = one Unfound (with_state Queued row) refl
parts_unfound book (gives_back cut work) row stays may = two Unfound (part_below cut (Done work false) row) (part_from cut (length book.rows) row) refl refl
parts_unfound book (closes work) row stays may = one Unfound (with_state (Done work false) row) refl
parts_unfound book (finds path work) row stays may = absurd stays

best_stays : (book : BookState) (change : Change) (row : Row) (before after : List Row) → Stays change → book.rows ≡ before ++ row ∷ after → IsAllowed book change row
    → (best : Option (List ℕ)) → HasBest best book.rows → HasBest best (changed_rows book change row before after)
best_stays book change row before after stays is may None has = among Unfound book change row before after is has (parts_unfound book change row stays may)
best_stays book change row before after stays is may (Some path) has =
    elim (where_in before row after has.0 (subst (λ (l : List Row). Contains l has.0) is has.1)) [
      | inl (inl left) ↦ (has.0, Contains-append_left before (parts_of book change row ++ after) has.0 left, has.2)
      | inl (inr same) ↦
          absurd (let unfound = not_found book change row may in let found : is_found row.state ≡ true = subst (λ (r : Row). is_found r.state ≡ true) (sym same) has.2.found in cc)
      | inr right ↦ (has.0, Contains-append_right before (parts_of book change row ++ after) has.0 (Contains-append_right (parts_of book change row) after has.0 right), has.2)
    ]

has_best_after : (book : BookState) (change : Change) (row : Row) (before after : List Row) → book.rows ≡ before ++ row ∷ after → IsAllowed book change row → AlwaysHolds book
    → HasBest (best_after book change) (rows_after book change row before after)
has_best_after book (starts worker) row before after is may always = best_stays book (starts worker) row before after tt is may book.best always.best
has_best_after book (divides cut) row before after is may always = best_stays book (divides cut) row before after tt is may book.best always.best
has_best_after book drops row before after is may always = best_stays book drops row before after tt is may book.best always.best
has_best_after book requeues row before after is may always = best_stays book requeues row before after tt is may book.best always.best
has_best_after book (gives_back cut work) row before after is may always = best_stays book (gives_back cut work) row before after tt is may book.best always.best
has_best_after book (closes work) row before after is may always = best_stays book (closes work) row before after tt is may book.best always.best
has_best_after book (finds path work) row before after is may always =
    let f : Row → Row = drop_above (Some path) in
    let done : Row = with_state (Done work true) row in
    let there : Contains (map f before ++ (done ∷ map f after)) done = Contains-append_right (map f before) (done ∷ map f after) done (0, omega arith, refl) in
    (done, subst (λ (l : List Row). Contains l done) (sym (map-append f before (done ∷ after))) there, record { found = refl; within = may.2 })

pub always_after : (book : BookState) (change : Change) (row : Row) (before after : List Row) (later : BookState) → book.rows ≡ before ++ row ∷ after → IsAllowed book change row → AlwaysHolds book
    → later.rows ≡ rows_after book change row before after → later.best ≡ best_after book change → AlwaysHolds later
always_after book change row before after later is may always rows-are best-is =
    let round = tile_round (At []) End before row after (subst (λ (l : List Row). Tile (At []) End l) is always.tiled) in
    record {
      tiled = subst (λ (l : List Row). Tile (At []) End l) (sym rows-are) (tile_after book change row before after may round);
      numbered = λ n. subst (λ (l : List Row). count_of n l ≡ (if nat_lt n (length l) then 1 else 0)) (sym rows-are) (numbered_after book change row before after n is (always.numbered n));
      placed = subst (λ (l : List Row). All (Placed later.best) l) (sym rows-are) (subst (λ (b : Option (List ℕ)). All (Placed b) (rows_after book change row before after)) (sym best-is) (placed_after book change row before after is round may always));
      best = subst (λ (l : List Row). HasBest later.best l) (sym rows-are) (subst (λ (b : Option (List ℕ)). HasBest b (rows_after book change row before after)) (sym best-is) (has_best_after book change row before after is may always));
    }

-- the rows and the best path of the book after a step
made : (book : BookState) (event : Event) (cut : Option (List ℕ)) (change : Change) (row : Row) (before after : List Row)
    → ((with_best (best_of change) (recorded book event cut (changed_rows book change row before after))).rows ≡ rows_after book change row before after)
    × ((with_best (best_of change) (recorded book event cut (changed_rows book change row before after))).best ≡ best_after book change)
made book event cut (starts worker) row before after = (refl, refl)
made book event cut (divides list) row before after = (refl, refl)
made book event cut drops row before after = (refl, refl)
made book event cut requeues row before after = (refl, refl)
made book event cut (gives_back list work) row before after = (refl, refl)
made book event cut (closes work) row before after = (refl, refl)
made book event cut (finds path work) row before after = (refl, refl)

-- a step in these words
pub record Moved (book : BookState) (later : BookState) (s : Change) (row : Row) (before after : List Row) : Type 0 where
  pub rows_are : later.rows ≡ rows_after book s row before after
  pub best_is : later.best ≡ best_after book s

pub moved : (book : BookState) (event : Event) (cut : Option (List ℕ)) (later : BookState) (s : Stepped book event cut later) → Moved book later s.changes.change s.row s.first.before s.first.after
moved book event cut later s =
    let change = s.changes.change in
    let whole : later ≡ with_best (best_of change) (recorded book event cut (changed_rows book change s.row s.first.before s.first.after)) =
    s.next_is ∙ ap (λ (l : List Row). with_best (best_of change) (recorded book event cut (s.first.before ++ (l ++ s.first.after)))) s.changes.parts_are in
    let both = made book event cut change s.row s.first.before s.first.after in
    record {
      rows_are = ap (λ (b : BookState). b.rows) whole ∙ both.0;
      best_is = ap (λ (b : BookState). b.best) whole ∙ both.1;
    }

pub always_stepped : (book : BookState) (event : Event) (cut : Option (List ℕ)) (later : BookState) → AlwaysHolds book → step book event cut ≡ Some later → AlwaysHolds later
always_stepped book event cut later always e =
    let s = stepped book event cut later e in
    let m = moved book event cut later s in
    always_after book s.changes.change s.row s.first.before s.first.after later s.first.is s.changes.allowed always m.rows_are m.best_is

pub always_new : (budget : ℕ) → AlwaysHolds (new_book budget)
always_new budget = record {
  tiled = (refl, tt, refl);
  numbered = λ n. grind (arith, nat_tests);
  placed = one (Placed None) (record { number = 0; from = []; to = End; state = Queued }) refl;
  best = one Unfound (record { number = 0; from = []; to = End; state = Queued }) refl;
}

abbrev IfBook : (BookState → Type 0) → Option BookState → Type 0
IfBook P None = Unit {0}
IfBook P (Some book) = P book

pub none_stays : (cuts : List (List ℕ)) (events : List Event) → replayed cuts events None ≡ None
none_stays cuts [] = refl
none_stays cuts (event ∷ events) = none_stays cuts events

-- a fact that each step keeps holds of every replay
pub kept_along : (P : BookState → Type 0) → ((book : BookState) (event : Event) (cut : Option (List ℕ)) (later : BookState) → P book → step book event cut ≡ Some later → P later)
    → (cuts : List (List ℕ)) (events : List Event) (start : BookState) → P start → (book : BookState) → replayed cuts events (Some start) ≡ Some book → P book
kept_along P keep cuts [] start holds book e = subst (IfBook P) e holds
kept_along P keep cuts (event ∷ events) start holds book e = by (step start event (cut_of cuts event)) refl e (λ later holds' same. kept_along P keep cuts events later holds' book same)
  where
    by : (o : Option BookState) → step start event (cut_of cuts event) ≡ o → replayed cuts events o ≡ Some book → ((later : BookState) → P later → replayed cuts events (Some later) ≡ Some book → P book) → P book
    by None is same go = absurd (let n = none_stays cuts events in cc)
    by (Some later) is same go = go later (keep start event (cut_of cuts event) later holds is) same

pub each_replay_holds : EachReplayHolds
each_replay_holds budget cuts events book e = kept_along AlwaysHolds always_stepped cuts events (new_book budget) (always_new budget) book e

pub each_list_is_in_one_row : EachListIsInOneRow
each_list_is_in_one_row budget cuts events book e list =
    in_one (At []) End book.rows list (each_replay_holds budget cuts events book e).tiled (λ h. h) tt

pub each_event_covers_its_row : EachEventCoversItsRow
each_event_covers_its_row budget cuts events book e event cut row parts about made =
    let always = each_replay_holds budget cuts events book e in
    let first = first_found (is_about event) row book.rows about in
    let changes = change_of book event cut row parts first.passes made in
    let round = tile_round (At []) End first.before row first.after (subst (λ (l : List Row). Tile (At []) End l) first.is always.tiled) in
    subst (λ (l : List Row). Covers row l) (sym changes.parts_are) (covers row (parts_of book changes.change row) (parts_tile book changes.change row changes.allowed round.here))
