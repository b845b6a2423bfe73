-- What the calls of a book know of its tables.
use Rattle.std.proofs.Common.{◌≡◌, ℕ, zero, suc, ◌+◌, ◌<◌, ◌≤◌, ◌⊎◌, ◌∙◌, Bool, true, false, cond, List, [], ◌∷◌, ◌++◌, length, take, drop, map, refl, sym, ap, subst, inl, inr, arith}
use Rattle.std.specs.Prelude.{Option, Some, None, All, Contains, slice_get, ◌==◌, ◌&&◌, ◌||◌, ◌↔◌, not, nat_lt, if◌then◌else◌, IsTrue, IsSome, Result, Ok, Err, OnErr}
use Rattle.std.specs.List.{find}
use Rattle.std.proofs.lemmas.List.Elements.{All-nil, All-cons, All-head, All-tail, All-contains, Contains-append_right, Contains-append_cases}
use Rattle.std.proofs.lemmas.Bool.Decides.{nat_tests}
use Rattle.pm_choice.specs.declared.Bound.{Bound}
use Rattle.pm_choice.specs.declared.Bound.TheVariants.{At, End}
use Rattle.pm_choice.specs.Order.{Precedes, PrecedesBound, IsWithin}
use Rattle.pm_choice.proofs.OrderLemmas.{not_below}
use Rattle.pm_book.specs.declared.row.BookRow.{BookRow}
use Rattle.pm_book.specs.declared.event.Event.{Event}
use Rattle.pm_book.specs.declared.tables.Tables.{Tables}
use Rattle.pm_book.specs.declared.tables.Spot.{Spot}
use Rattle.pm_book.specs.Rows.{Row, BookState, Span, span_of, Tile, is_before, is_below, is_within, is_queued, is_running, is_above, is_open, count_of}
use Rattle.pm_book.specs.Steps.{where_true, is_about, is_next_cut, parts_after, may_return, step, IsReplay}
use Rattle.pm_book.specs.Always.{AlwaysHolds}
use Rattle.pm_book.specs.Shown.{HasPlaces, lower, upper, row_seen}
use Rattle.pm_book.specs.Inside.Seen.{seen, AreKept, IsFirstSpot, AreSoundTables, IsSpotOf}
use Rattle.pm_book.specs.Answers.{IsQueuedAt, Knows, HasStarted, IsBookOver, NoneQueued, IsInside}
use Rattle.pm_book.proofs.OrderTests.{bool_cases, before_is, below_is, not_before_is, is_not_before, and_is, not_is, same_is}
use Rattle.pm_book.proofs.Tiles.{tile_round}
use Rattle.pm_book.proofs.Kept.{count_append, count_cons, where_in}
use Rattle.pm_book.proofs.Always.{each_replay_holds}
use Rattle.pm_book.proofs.Counted.{none_counts}
use Rattle.pm_book.proofs.Places.{seen_split, all_seen, find_at, step_made, no_row, no_parts}
use Rattle.pm_book.proofs.Moves.{same_self, and_holds, where_holds, spot_places}
use Rattle.pm_book.proofs.Replays.{replay_more}

pub always_of : (t : Tables) → AreSoundTables t → AlwaysHolds (seen t)
always_of t sound = each_replay_holds t.budget t.cuts.items t.events.items (seen t) sound.replay

-- tables after a step are those of a book, and so are tables that stand for the same
pub sound_step : (old new : Tables) (event : Event) (cut : Option (List ℕ)) → AreSoundTables old → AreKept new → step (seen old) event cut ≡ Some (seen new) → AreSoundTables new
sound_step old new event cut sound kept e = record { kept = kept; replay = replay_more (seen old) event cut (seen new) sound.replay e }

pub sound_same : (old new : Tables) → AreSoundTables old → AreKept new → seen new ≡ seen old → AreSoundTables new
sound_same old new sound kept same = record { kept = kept; replay = subst (λ (b : BookState). IsReplay b) (sym same) sound.replay }

-- a row of a list is counted
counted : (n : ℕ) (rows : List Row) (row : Row) → Contains rows row → row.number ≡ n → 1 ≤ count_of n rows
counted n [] row within is = absurd (omega (arith, within.1))
counted n (x ∷ xs) row within is =
    let whole = count_cons n x xs in
    elim (Contains-append_cases (x ∷ []) xs row within) [
      | inl (zero, less, same) ↦
          let here : (x.number == n) ≡ true = ap (λ (r : Row). r.number == n) same ∙ ap (λ (m : ℕ). m == n) is ∙ same_self n in
          let one : cond {A = ℕ} (x.number == n) 1 0 ≡ 1 = ap (λ (b : Bool). cond {A = ℕ} b 1 0) here in
          omega (arith, whole, one)
      | inl (suc k, less, same) ↦ absurd (omega arith)
      | inr there ↦ let rest = counted n xs row there is in omega (arith, whole, rest)
    ]

one_only : (n total count : ℕ) → count ≡ (if nat_lt n total then 1 else 0) → count ≤ 1
one_only n total count is = grind (arith, nat_tests)

-- no two rows have one number
pub row_unique : (book : BookState) → AlwaysHolds book → (before : List Row) (row : Row) (after : List Row) → book.rows ≡ before ++ (row ∷ after) → (other : Row) → Contains book.rows other → other.number ≡ row.number → row ≡ other
row_unique book always before row after is other within same =
    let few = one_only row.number (length book.rows) (count_of row.number book.rows) (always.numbered row.number) in
    let total : count_of row.number book.rows ≡ count_of row.number before + count_of row.number (row ∷ after) = ap (count_of row.number) is ∙ count_append row.number before (row ∷ after) in
    let here = count_cons row.number row after in
    let one : cond {A = ℕ} (row.number == row.number) 1 0 ≡ 1 = ap (λ (b : Bool). cond {A = ℕ} b 1 0) (same_self row.number) in
    elim (where_in before row after other (subst (λ (l : List Row). Contains l other) is within)) [
      | inl (inl left) ↦ absurd (let c = counted row.number before other left same in omega (arith, few, total, here, one, c))
      | inl (inr e) ↦ e
      | inr right ↦ absurd (let c = counted row.number after other right same in omega (arith, few, total, here, one, c))
    ]

-- the row of a spot is among the rows
pub spot_within : (t : Tables) (spot : Spot) → slice_get t.rows.items spot.place ≡ Some spot.row → Contains (seen t).rows (row_seen t.cuts.items spot.row)
spot_within t spot there =
    let row : Row = row_seen t.cuts.items spot.row in
    let after : List Row = map (row_seen t.cuts.items) (drop (spot.place + 1) t.rows.items) in
    let before : List Row = map (row_seen t.cuts.items) (take spot.place t.rows.items) in
    subst (λ (l : List Row). Contains l row) (sym (seen_split t.cuts.items t.rows.items spot there)) (Contains-append_right before (row ∷ after) row (0, omega arith, refl))

-- a row of the number of a spot is its row
pub spot_unique : (t : Tables) (spot : Spot) → AlwaysHolds (seen t) → slice_get t.rows.items spot.place ≡ Some spot.row → (other : Row) → Contains (seen t).rows other → other.number ≡ spot.row.number → row_seen t.cuts.items spot.row ≡ other
spot_unique t spot always there other within same =
    row_unique (seen t) always (map (row_seen t.cuts.items) (take spot.place t.rows.items)) (row_seen t.cuts.items spot.row) (map (row_seen t.cuts.items) (drop (spot.place + 1) t.rows.items))
    (seen_split t.cuts.items t.rows.items spot there) other within same

-- where no row has a number, none that is seen has it
pub none_numbered : (t : Tables) (number : ℕ) → All (λ row. (row.number == number) ≡ false) t.rows.items → (other : Row) → Contains (seen t).rows other → other.number ≡ number → ⊥
none_numbered t number none other within same =
    let not_here : (other.number == number) ≡ false =
    All-contains (λ (r : Row). (r.number == number) ≡ false) (seen t).rows other (all_seen t.cuts.items (λ row. row.number == number) (λ row. row.number == number) (λ r. refl) t.rows.items none) within in
    let here : (other.number == number) ≡ true = ap (λ (m : ℕ). m == number) same ∙ same_self number in
    cc

pub unknown_none : (t : Tables) (ticket : Span) → All (λ row. (row.number == ticket.number) ≡ false) t.rows.items → ¬ Knows (seen t) ticket
unknown_none t ticket none knows = none_numbered t ticket.number none knows.0 knows.1 (ap (λ (s : Span). s.number) knows.2)

pub unknown_other : (t : Tables) (spot : Spot) (ticket : Span) → AlwaysHolds (seen t) → slice_get t.rows.items spot.place ≡ Some spot.row → spot.row.number ≡ ticket.number
    → (¬ (IsTrue (is_running spot.row.state) × (lower t.cuts.items spot.row.from ≡ ticket.from) × (upper t.cuts.items spot.row.to ≡ ticket.to))) → ¬ Knows (seen t) ticket
unknown_other t spot ticket always there number differs knows =
    let same = spot_unique t spot always there knows.0 knows.1 (ap (λ (s : Span). s.number) knows.2 ∙ sym number) in
    differs (
      ap (λ (r : Row). is_running r.state) same ∙ knows.3,
      ap (λ (r : Row). r.from) same ∙ ap (λ (s : Span). s.from) knows.2,
      ap (λ (r : Row). r.to) same ∙ ap (λ (s : Span). s.to) knows.2,
    )

pub known : (t : Tables) (ticket : Span) (spot : Spot) → IsSpotOf t ticket spot → Knows (seen t) ticket
known t ticket spot is = (row_seen t.cuts.items spot.row, spot_within t spot is.running.first.there, is.is, is.running.runs)

-- the interval of a spot's row isn't empty
pub spot_interval : (t : Tables) (spot : Spot) → AlwaysHolds (seen t) → slice_get t.rows.items spot.place ≡ Some spot.row → PrecedesBound (lower t.cuts.items spot.row.from) (upper t.cuts.items spot.row.to)
spot_interval t spot always there =
    (tile_round (At []) End (map (row_seen t.cuts.items) (take spot.place t.rows.items)) (row_seen t.cuts.items spot.row) (map (row_seen t.cuts.items) (drop (spot.place + 1) t.rows.items))
    (subst (λ (l : List Row). Tile (At []) End l) (seen_split t.cuts.items t.rows.items spot there) always.tiled)).here

-- an event whose row isn't there, or may not have it, is no step
pub unfound : (t : Tables) (test : BookRow → Bool) (event : Event) (cut : Option (List ℕ)) → ((r : BookRow) → is_about event (row_seen t.cuts.items r) ≡ test r) → All (λ row. test row ≡ false) t.rows.items → step (seen t) event cut ≡ None
unfound t test event cut about none = no_row (seen t) event cut (all_seen t.cuts.items test (is_about event) about t.rows.items none)

pub refused : (t : Tables) (spot : Spot) (test : BookRow → Bool) (event : Event) (cut : Option (List ℕ)) → ((r : BookRow) → is_about event (row_seen t.cuts.items r) ≡ test r) → IsFirstSpot test t.rows.items spot
    → (may : Bool) (parts : List Row) → parts_after (seen t) event cut (row_seen t.cuts.items spot.row) ≡ where_true may parts → may ≡ false → step (seen t) event cut ≡ None
refused t spot test event cut about first may parts made not_may =
    no_parts (seen t) event cut (map (row_seen t.cuts.items) (take spot.place t.rows.items)) (row_seen t.cuts.items spot.row) (map (row_seen t.cuts.items) (drop (spot.place + 1) t.rows.items))
    (seen_split t.cuts.items t.rows.items spot first.there) (all_seen t.cuts.items test (is_about event) about (take spot.place t.rows.items) first.first) (about spot.row ∙ first.passes)
    (made ∙ ap (λ (b : Bool). where_true b parts) not_may)

-- an event that its row may have is a step
pub allowed : (t : Tables) (spot : Spot) (test : BookRow → Bool) (event : Event) (cut : Option (List ℕ)) → ((r : BookRow) → is_about event (row_seen t.cuts.items r) ≡ test r) → IsFirstSpot test t.rows.items spot
    → (may : Bool) (parts : List Row) → parts_after (seen t) event cut (row_seen t.cuts.items spot.row) ≡ where_true may parts → may ≡ true → IsSome (step (seen t) event cut)
allowed t spot test event cut about first may parts made is_allowed =
    subst (λ (o : Option BookState). IsSome o)
    (sym (step_made (seen t) event cut (map (row_seen t.cuts.items) (take spot.place t.rows.items)) (row_seen t.cuts.items spot.row) (map (row_seen t.cuts.items) (drop (spot.place + 1) t.rows.items)) parts
    (seen_split t.cuts.items t.rows.items spot first.there) (all_seen t.cuts.items test (is_about event) about (take spot.place t.rows.items) first.first) (about spot.row ∙ first.passes)
    (made ∙ where_holds may parts is_allowed))) refl

and_fails : (a b : Bool) → b ≡ false → (a && b) ≡ false
and_fails true b e = e
and_fails false b e = refl

-- the same of an event that names the next list, and the number of a row
pub refused_listed : (t : Tables) (spot : Spot) (number : ℕ) (event : Event) (cut : Option (List ℕ)) → ((r : BookRow) → is_about event (row_seen t.cuts.items r) ≡ (r.number == number)) → IsFirstSpot (λ row. row.number == number) t.rows.items spot
    → (may : Bool) (parts : List Row) → parts_after (seen t) event cut (row_seen t.cuts.items spot.row) ≡ where_true (is_next_cut (seen t) (length t.cuts.items) && may) parts → may ≡ false → step (seen t) event cut ≡ None
refused_listed t spot number event cut about first may parts made not_may =
    refused t spot (λ row. row.number == number) event cut about first (is_next_cut (seen t) (length t.cuts.items) && may) parts made (and_fails (is_next_cut (seen t) (length t.cuts.items)) may not_may)

pub allowed_listed : (t : Tables) (spot : Spot) (number : ℕ) (event : Event) (cut : Option (List ℕ)) → ((r : BookRow) → is_about event (row_seen t.cuts.items r) ≡ (r.number == number)) → IsFirstSpot (λ row. row.number == number) t.rows.items spot
    → (may : Bool) (parts : List Row) → parts_after (seen t) event cut (row_seen t.cuts.items spot.row) ≡ where_true (is_next_cut (seen t) (length t.cuts.items) && may) parts → may ≡ true → IsSome (step (seen t) event cut)
allowed_listed t spot number event cut about first may parts made is_allowed =
    allowed t spot (λ row. row.number == number) event cut about first (is_next_cut (seen t) (length t.cuts.items) && may) parts made (and_holds (is_next_cut (seen t) (length t.cuts.items)) may (same_self (length t.cuts.items)) is_allowed)

pub any_err : {T E P : Type 0} → (r : Result T E) → P → OnErr r P
any_err (Ok x) p = tt
any_err (Err e) p = p

-- the row of a first spot is the one that an event is about
pub spot_found : (t : Tables) (spot : Spot) (test : BookRow → Bool) (event : Event) → ((r : BookRow) → is_about event (row_seen t.cuts.items r) ≡ test r) → IsFirstSpot test t.rows.items spot
    → find (is_about event) (seen t).rows ≡ Some (row_seen t.cuts.items spot.row)
spot_found t spot test event about first =
    ap (find (is_about event)) (seen_split t.cuts.items t.rows.items spot first.there)
    ∙ find_at (is_about event) (map (row_seen t.cuts.items) (take spot.place t.rows.items)) (row_seen t.cuts.items spot.row) (map (row_seen t.cuts.items) (drop (spot.place + 1) t.rows.items))
    (all_seen t.cuts.items test (is_about event) about (take spot.place t.rows.items) first.first) (about spot.row ∙ first.passes)

pub started : (old : BookState) (mid new : Tables) (spot : Spot) (test : BookRow → Bool) (event : Event) (ticket : Span) → seen mid ≡ old → ((r : BookRow) → is_about event (row_seen mid.cuts.items r) ≡ test r)
    → IsFirstSpot test mid.rows.items spot → ticket ≡ span_of (row_seen mid.cuts.items spot.row) → step (seen mid) event None ≡ Some (seen new) → HasStarted old event ticket (seen new)
started old mid new spot test event ticket same about first ticket-is step-is =
    subst (λ (b : BookState). HasStarted b event ticket (seen new)) same
    (record { row = row_seen mid.cuts.items spot.row; about = spot_found mid spot test event about first; ticket_is = ticket-is; step_is = step-is })

-- whether a book is over, from what is counted
pub over_is : (t : Tables) → AreKept t → ((t.budget < t.counts.spent) ⊎ (t.counts.remaining ≡ 0)) ↔ IsBookOver (seen t)
over_is t kept =
    let none = none_counts (is_open (seen t).best) (seen t).rows in (
      λ told. elim told [ inl more ↦ inl (subst (λ (n : ℕ). t.budget < n) kept.counted.spent more) | inr closed ↦ inr (none.0 (sym kept.counted.remaining ∙ closed)) ],
      λ over. elim over [ inl more ↦ inl (subst (λ (n : ℕ). t.budget < n) (sym kept.counted.spent) more) | inr closed ↦ inr (kept.counted.remaining ∙ none.1 closed) ],
    )

pub not_over : (t : Tables) (over : Bool) → (IsTrue over ↔ IsBookOver (seen t)) → over ≡ false → ¬ IsBookOver (seen t)
not_over t over told not is_over = absurd (let yes' = told.1 is_over in cc)

-- where no Queued row is counted there is none
unseen : (cuts : List (List ℕ)) (rows : List BookRow) → All (λ (row : Row). is_queued row.state ≡ false) (map (row_seen cuts) rows) → All (λ (row : BookRow). is_queued row.state ≡ false) rows
unseen cuts [] none = All-nil (λ (row : BookRow). is_queued row.state ≡ false)
unseen cuts (x ∷ xs) none =
    All-cons (λ (row : BookRow). is_queued row.state ≡ false) x xs (All-head (λ (row : Row). is_queued row.state ≡ false) (row_seen cuts x) (map (row_seen cuts) xs) none)
    (unseen cuts xs (All-tail (λ (row : Row). is_queued row.state ≡ false) (row_seen cuts x) (map (row_seen cuts) xs) none))

pub no_queued : (t : Tables) → AreKept t → t.counts.queued ≡ 0 → All (λ row. is_queued row.state ≡ false) t.rows.items
no_queued t kept none = unseen t.cuts.items t.rows.items ((none_counts (λ (row : Row). is_queued row.state) (seen t).rows).0 (sym kept.counted.queued ∙ none))

pub none_queued : (t : Tables) → All (λ (row : BookRow). is_queued row.state ≡ false) t.rows.items → NoneQueued (seen t)
none_queued t none = all_seen t.cuts.items (λ row. is_queued row.state) (λ row. is_queued row.state) (λ r. refl) t.rows.items none

pub one_queued : (t : Tables) (spot : Spot) → slice_get t.rows.items spot.place ≡ Some spot.row → is_queued spot.row.state ≡ true → ¬ NoneQueued (seen t)
one_queued t spot there queued none =
    let not_here : is_queued spot.row.state ≡ false = All-contains (λ (r : Row). is_queued r.state ≡ false) (seen t).rows (row_seen t.cuts.items spot.row) none (spot_within t spot there) in
    cc

-- the end of a ticket's row
pub end_fact : (t new : Tables) (ticket : Span) (spot : Spot) (told flag : Bool) (event : ℕ → Event) (cut : Option (List ℕ)) → IsSpotOf t ticket spot
    → told ≡ is_above (seen t).best (lower t.cuts.items spot.row.from) → told ≡ flag → step (seen t) (event spot.row.number) cut ≡ Some (seen new)
    → Knows (seen t) ticket × (is_above (seen t).best ticket.from ≡ flag) × (step (seen t) (event ticket.number) cut ≡ Some (seen new))
end_fact t new ticket spot told flag event cut is told-is flag-is step-is = (
  known t ticket spot is,
  ap (λ (s : Span). is_above (seen t).best s.from) (sym is.is) ∙ sym told-is ∙ flag-is,
  ap (λ (s : Span). step (seen t) (event s.number) cut) (sym is.is) ∙ step-is,
)

pub within_holds : (from list : List ℕ) (to : Bound) → IsWithin from to list → is_within from to list ≡ true
within_holds from list to is = and_holds (not (is_before list from)) (is_below list to) (ap not (is_not_before list from is.not_below)) ((below_is list to).1 is.below)

pub spot_holds : (t : Tables) (ticket : Span) (spot : Spot) (list : List ℕ) → IsSpotOf t ticket spot → IsWithin ticket.from ticket.to list → is_within (lower t.cuts.items spot.row.from) (upper t.cuts.items spot.row.to) list ≡ true
spot_holds t ticket spot list is within =
    ap (λ (s : Span). is_within s.from s.to list) is.is ∙ within_holds ticket.from list ticket.to within

zero_is : (n : ℕ) → n ≡ 0 → (n == 0) ≡ true
zero_is n e = grind (arith, nat_tests)

or_right : (a b : Bool) → b ≡ true → (a || b) ≡ true
or_right true b e = refl
or_right false b e = e

pub may_give : (t : Tables) (ticket : Span) (spot : Spot) (cut : List ℕ) (work : ℕ) → IsSpotOf t ticket spot → IsWithin ticket.from ticket.to cut → (cut ≡ ticket.from → work ≡ 0)
    → may_return cut work (row_seen t.cuts.items spot.row) ≡ true
may_give t ticket spot cut work is within idle =
    let from : List ℕ = lower t.cuts.items spot.row.from in
    let to : Bound = upper t.cuts.items spot.row.to in
    let from-is : from ≡ ticket.from = ap (λ (s : Span). s.from) is.is in
    let inside = spot_holds t ticket spot cut is within in
    let beyond : (is_before from cut || work == 0) ≡ true =
    elim (bool_cases (is_before from cut)) [
      | inl after ↦ ap (λ (b : Bool). b || (work == 0)) after
      | inr at_end ↦
          or_right (is_before from cut) (work == 0)
          (zero_is work (idle (elim (not_below cut ticket.from within.not_below) [
            | inl same ↦ same
            | inr after ↦ absurd (not_before_is from cut at_end (subst (λ (l : List ℕ). Precedes l cut) (sym from-is) after))
          ])))
    ] in
    and_holds (is_running spot.row.state) (is_within from to cut && (is_before from cut || work == 0)) is.running.runs
    (and_holds (is_within from to cut) (is_before from cut || work == 0) inside beyond)

pub inside_is : (ticket : Span) (list : List ℕ) → (is_before ticket.from list && is_below list ticket.to) ≡ true → IsInside ticket list
inside_is ticket list e =
    let both = and_is (is_before ticket.from list) (is_below list ticket.to) e in
    ((before_is ticket.from list).0 both.0, (below_is list ticket.to).0 both.1)

pub outside_is : (ticket : Span) (list : List ℕ) → (is_before ticket.from list && is_below list ticket.to) ≡ false → ¬ IsInside ticket list
outside_is ticket list e inside =
    let both : (is_before ticket.from list && is_below list ticket.to) ≡ true =
    and_holds (is_before ticket.from list) (is_below list ticket.to) ((before_is ticket.from list).1 inside.0) ((below_is list ticket.to).1 inside.1) in
    cc

-- a spot stays that of a ticket's row in tables that stand for the same
pub same_spot : (old mid : Tables) (ticket : Span) (spot : Spot) → mid.rows.items ≡ old.rows.items → seen mid ≡ seen old → IsSpotOf old ticket spot → IsSpotOf mid ticket spot
same_spot old mid ticket spot rows same is = record {
  running = record { first = subst (λ (l : List BookRow). IsFirstSpot (λ row. row.number == spot.row.number) l spot) (sym rows) is.running.first; runs = is.running.runs };
  is = ap (λ (l : List (List ℕ)). span_of (row_seen l spot.row)) (ap (λ (b : BookState). b.cuts) same) ∙ is.is;
}

pub wanted_is : (t : Tables) (ticket : Span) (spot : Spot) (above : Bool) → IsSpotOf t ticket spot → above ≡ is_above (seen t).best ticket.from
    → (not above ≡ true) ↔ (Knows (seen t) ticket × (is_above (seen t).best ticket.from ≡ false))
wanted_is t ticket spot above is above-is =
    (λ e. (known t ticket spot is, sym above-is ∙ not_is above e), λ both. ap not (above-is ∙ both.1))

-- a span that ends at a list
abbrev pub span_to : ℕ → List ℕ → List ℕ → Span
span_to number from list = record { number = number; from = from; to = At list }

-- tables in which room was made for the start of a spot's row
pub record IsReady (mid : Tables) (test : BookRow → Bool) (spot : Spot) : Type 0 where
  pub sound : AreSoundTables mid
  pub first : IsFirstSpot test mid.rows.items spot
  pub places : HasPlaces (length mid.cuts.items) spot.row
  pub interval : PrecedesBound (lower mid.cuts.items spot.row.from) (upper mid.cuts.items spot.row.to)

pub ready : (old mid : Tables) (test : BookRow → Bool) (spot : Spot) → AreSoundTables old → IsFirstSpot test old.rows.items spot → AreKept mid → mid.rows.items ≡ old.rows.items → seen mid ≡ seen old → IsReady mid test spot
ready old mid test spot sound first kept rows same =
    let sound' = sound_same old mid sound kept same in
    let first' : IsFirstSpot test mid.rows.items spot = subst (λ (l : List BookRow). IsFirstSpot test l spot) (sym rows) first in
    record { sound = sound'; first = first'; places = spot_places mid spot kept first'.there; interval = spot_interval mid spot (always_of mid sound') first'.there }

-- the row of a spot, where it is Queued
pub queued_at : (t : Tables) (spot : Spot) (number : ℕ) → IsFirstSpot (λ row. row.number == number) t.rows.items spot → is_queued spot.row.state ≡ true → IsQueuedAt (seen t) number
queued_at t spot number first queued = (row_seen t.cuts.items spot.row, spot_within t spot first.there, same_is spot.row.number number first.passes, queued)
