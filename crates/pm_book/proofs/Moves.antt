-- What the changes of tables are steps of.
use Rattle.std.proofs.Common.{◌≡◌, ℕ, zero, suc, ◌+◌, ◌-◌, ◌<◌, ◌≤◌, ◌⊎◌, ◌∙◌, Bool, true, false, List, [], ◌∷◌, ◌++◌, length, take, drop, map, refl, sym, ap, subst, inl, inr, arith}
use Rattle.std.specs.Prelude.{Option, Some, None, All, slice_get, slice_index_or, ◌==◌, ◌&&◌, nat_le, if◌then◌else◌}
use Rattle.std.proofs.lemmas.Bool.Decides.{nat_tests}
use Rattle.std.proofs.lemmas.List.{length-map}
use Rattle.std.proofs.Math.Seq.{get_or-append_seam}
use Rattle.std.proofs.lemmas.List.Elements.{All-cons, All-nil}
use Rattle.std.proofs.lemmas.Option.{slice_get_within, get_or_from_slice_get}
use Rattle.pm_book.specs.declared.row.RowState.{RowState}
use Rattle.pm_book.specs.declared.row.RowState.TheVariants.{Queued, Running, Done, Dropped}
use Rattle.pm_book.specs.declared.row.BookRow.{BookRow}
use Rattle.pm_book.specs.declared.event.Event.TheVariants.{Took, Claimed, Split, Returned, Closed, Found}
use Rattle.pm_book.specs.declared.tables.Tables.{Tables}
use Rattle.pm_book.specs.declared.tables.Spot.{Spot}
use Rattle.pm_book.specs.Rows.{Row, is_before, is_below, is_within, is_queued, is_running, is_above, spent}
use Rattle.pm_book.specs.Steps.{where_true, with_state, part_below, part_from, drop_above, ended, returned, may_return, is_next_cut, with_best, step}
use Rattle.pm_book.specs.Shown.{lower, upper, row_seen, HasPlaces}
use Rattle.pm_book.specs.Inside.Seen.{seen, running_of, HasRoom, AreKept, IsFirstSpot, IsRunningSpot, HasPut, queued_unless, done_unless}
use Rattle.pm_book.specs.Inside.Counted.{AreCounted}
use Rattle.pm_book.proofs.Counted.{running_least}
use Rattle.pm_book.proofs.Places.{lower_more, upper_more, row_more, places_more, put_step, seen_split}

pub where_holds : {A : Type 0} (test : Bool) (value : A) → test ≡ true → where_true test value ≡ Some value
where_holds test value e = ap (λ (b : Bool). if b then Some value else None) e

pub and_holds : (a b : Bool) → a ≡ true → b ≡ true → (a && b) ≡ true
and_holds a b p q = ap (λ (x : Bool). x && b) p ∙ q

pub same_self : (n : ℕ) → (n == n) ≡ true
same_self n = grind (arith, nat_tests)

pub within_le : (m n : ℕ) → m ≤ n → nat_le m n ≡ true
within_le m n h = grind (arith, nat_tests)

pub all_at : {X : Type 0} (P : X → Type 0) (xs : List X) (place : ℕ) (x : X) → All P xs → slice_get xs place ≡ Some x → P x
all_at P xs place x all there = subst P (get_or_from_slice_get xs place x x there) (all place x (slice_get_within xs place x there))

pub spot_places : (t : Tables) (spot : Spot) → AreKept t → slice_get t.rows.items spot.place ≡ Some spot.row → HasPlaces (length t.cuts.items) spot.row
spot_places t spot kept there = all_at (HasPlaces (length t.cuts.items)) t.rows.items spot.place spot.row kept.places there

-- a spot's row is counted among the Running rows
pub spot_least : (t : Tables) (spot : Spot) → AreKept t → slice_get t.rows.items spot.place ≡ Some spot.row → running_of spot.row.state ≤ t.counts.running
spot_least t spot kept there =
    running_least t.counts (seen t).best (map (row_seen t.cuts.items) (take spot.place t.rows.items)) (row_seen t.cuts.items spot.row) (map (row_seen t.cuts.items) (drop (spot.place + 1) t.rows.items))
    (subst (λ (l : List Row). AreCounted t.counts (seen t).best l) (seen_split t.cuts.items t.rows.items spot there) kept.counted)

-- there is room for the end of a Running row
pub end_room : (t : Tables) (spot : Spot) (state : RowState) → AreKept t → slice_get t.rows.items spot.place ≡ Some spot.row → is_running spot.row.state ≡ true → is_running state ≡ false
    → HasRoom t (t.counts.running + running_of state - running_of spot.row.state + 1)
end_room t spot state kept there runs stops =
    let least = spot_least t spot kept there in
    let was : running_of spot.row.state ≡ 1 = ap (λ (b : Bool). if b then 1 else 0) runs in
    let will : running_of state ≡ 0 = ap (λ (b : Bool). if b then 1 else 0) stops in
    let total : t.counts.running + running_of state - running_of spot.row.state + 1 ≡ t.counts.running = omega (arith, least, was, will) in
    subst (HasRoom t) (sym total) kept.room

pub done_stops : (above : Bool) (work : ℕ) (found : Bool) → is_running (done_unless above work found) ≡ false
done_stops true work found = refl
done_stops false work found = refl

pub queued_stops : (above : Bool) → is_running (queued_unless above) ≡ false
queued_stops true = refl
queued_stops false = refl

one_place : (n m : ℕ) (row : BookRow) (state : RowState) → HasPlaces n row → All (HasPlaces (n + m)) (record row { state = state } ∷ [])
one_place n m row state has k d less = by k less
  where
    by : (k : ℕ) → k < 1 → HasPlaces (n + m) (slice_index_or (record row { state = state } ∷ []) k d)
    by zero h = places_more n (n + m) (omega arith) (record row { state = state }) (record { from = has.from; to = has.to })
    by (suc k) h = absurd (omega arith)

pub spot_place : (t : Tables) (spot : Spot) (m : ℕ) (state : RowState) → AreKept t → slice_get t.rows.items spot.place ≡ Some spot.row → All (HasPlaces (length t.cuts.items + m)) (record spot.row { state = state } ∷ [])
spot_place t spot m state kept there = one_place (length t.cuts.items) m spot.row state (spot_places t spot kept there)

-- a row with another state, as it is seen
pub one_part : (t : Tables) (spot : Spot) (more : List (List ℕ)) (state : RowState) → AreKept t → slice_get t.rows.items spot.place ≡ Some spot.row
    → map (row_seen (t.cuts.items ++ more)) (record spot.row { state = state } ∷ []) ≡ with_state state (row_seen t.cuts.items spot.row) ∷ []
one_part t spot more state kept there =
    let has = spot_places t spot kept there in
    ap (λ (r : Row). r ∷ []) (row_more t.cuts.items more (record spot.row { state = state }) (record { from = has.from; to = has.to }))

-- the two parts of a row that is cut, as they are seen
pub two_parts : (t : Tables) (spot : Spot) (cut : List ℕ) (number : ℕ) (state rest : RowState) → AreKept t → slice_get t.rows.items spot.place ≡ Some spot.row
    → map (row_seen (t.cuts.items ++ cut ∷ [])) (record spot.row { to = Some (length t.cuts.items); state = state } ∷ record { number = number; from = Some (length t.cuts.items); to = spot.row.to; state = rest } ∷ [])
    ≡ part_below cut state (row_seen t.cuts.items spot.row) ∷ record { number = number; from = cut; to = upper t.cuts.items spot.row.to; state = rest } ∷ []
two_parts t spot cut number state rest kept there =
    let has = spot_places t spot kept there in
    let a = lower_more t.cuts.items (cut ∷ []) spot.row.from has.from in
    let b = upper_more t.cuts.items (cut ∷ []) spot.row.to has.to in
    let n = get_or-append_seam t.cuts.items cut [] [] in
    cc

pub take_step : (old new : Tables) (spot : Spot) (worker : ℕ) → AreKept old → IsFirstSpot (λ row. is_queued row.state) old.rows.items spot → spent (seen old) ≤ old.budget
    → HasPut old new spot.place (record spot.row { state = Running worker } ∷ []) None (Took worker spot.row.number) → step (seen old) (Took worker spot.row.number) None ≡ Some (seen new)
take_step old new spot worker kept first within put =
    put_step old new spot (λ row. is_queued row.state) (record spot.row { state = Running worker } ∷ []) None (Took worker spot.row.number) kept first (λ r. refl) put
    (where_holds (spot.row.number == spot.row.number && nat_le (spent (seen old)) old.budget) (with_state (Running worker) (row_seen old.cuts.items spot.row) ∷ [])
    (and_holds (spot.row.number == spot.row.number) (nat_le (spent (seen old)) old.budget) (same_self spot.row.number) (within_le (spent (seen old)) old.budget within))
    ∙ ap Some (sym (one_part old spot [] (Running worker) kept first.there)))

pub claim_step : (old new : Tables) (spot : Spot) (worker : ℕ) → AreKept old → IsFirstSpot (λ row. row.number == spot.row.number) old.rows.items spot → is_queued spot.row.state ≡ true
    → HasPut old new spot.place (record spot.row { state = Running worker } ∷ []) None (Claimed worker spot.row.number) → step (seen old) (Claimed worker spot.row.number) None ≡ Some (seen new)
claim_step old new spot worker kept first queued put =
    put_step old new spot (λ row. row.number == spot.row.number) (record spot.row { state = Running worker } ∷ []) None (Claimed worker spot.row.number) kept first (λ r. refl) put
    (where_holds (is_queued spot.row.state) (with_state (Running worker) (row_seen old.cuts.items spot.row) ∷ []) queued
    ∙ ap Some (sym (one_part old spot [] (Running worker) kept first.there)))

-- a new row that is dropped where it is above best, as it is seen
queued_part : (best : Option (List ℕ)) (cut : List ℕ) (number : ℕ) (row : Row) (above : Bool) → above ≡ is_above best cut
    → record { number = number; from = cut; to = row.to; state = queued_unless above } ≡ drop_above best (part_from cut number row)
queued_part best cut number row above is =
    elim above as (λ b. record { number = number; from = cut; to = row.to; state = queued_unless b } ≡ (if b then with_state Dropped (part_from cut number row) else part_from cut number row)) [ true ↦ refl | false ↦ refl ]
    ∙ ap (λ (b : Bool). if b then with_state Dropped (part_from cut number row) else part_from cut number row) is

pub split_step : (old new : Tables) (spot : Spot) (cut : List ℕ) (place number : ℕ) (above : Bool) (state : RowState) → state ≡ queued_unless above → place ≡ length old.cuts.items → number ≡ length old.rows.items → above ≡ is_above (seen old).best cut
    → AreKept old → IsRunningSpot old spot → is_before (lower old.cuts.items spot.row.from) cut ≡ true → is_below cut (upper old.cuts.items spot.row.to) ≡ true
    → HasPut old new spot.place (record spot.row { to = Some place } ∷ record { number = number; from = Some place; to = spot.row.to; state = state } ∷ []) (Some cut) (Split spot.row.number place)
    → step (seen old) (Split spot.row.number (length old.cuts.items)) (Some cut) ≡ Some (seen new)
split_step old new spot cut place number above state state-is place-is number-is above-is kept spot-is after below put =
    let cuts = old.cuts.items in
    let row : Row = row_seen cuts spot.row in
    let put' = subst (λ (p : ℕ). HasPut old new spot.place (record spot.row { to = Some p } ∷ record { number = number; from = Some p; to = spot.row.to; state = queued_unless above } ∷ []) (Some cut) (Split spot.row.number p)) place-is
    (subst (λ (q : RowState). HasPut old new spot.place (record spot.row { to = Some place } ∷ record { number = number; from = Some place; to = spot.row.to; state = q } ∷ []) (Some cut) (Split spot.row.number place)) state-is put) in
    let count : number ≡ length (seen old).rows = number-is ∙ sym (length-map old.rows.items (row_seen cuts)) in
    let rest : record { number = number; from = cut; to = row.to; state = queued_unless above } ≡ drop_above (seen old).best (part_from cut (length (seen old).rows) row) =
    queued_part (seen old).best cut number row above above-is ∙ ap (λ (n : ℕ). drop_above (seen old).best (part_from cut n row)) count in
    put_step old new spot (λ r. r.number == spot.row.number) (record spot.row { to = Some (length cuts) } ∷ record { number = number; from = Some (length cuts); to = spot.row.to; state = queued_unless above } ∷ [])
    (Some cut) (Split spot.row.number (length cuts)) kept spot-is.first (λ r. refl) put'
    (where_holds (is_next_cut (seen old) (length cuts) && (is_running row.state && (is_before row.from cut && is_below cut row.to)))
    (part_below cut row.state row ∷ drop_above (seen old).best (part_from cut (length (seen old).rows) row) ∷ [])
    (and_holds (is_next_cut (seen old) (length cuts)) (is_running row.state && (is_before row.from cut && is_below cut row.to)) (same_self (length cuts))
    (and_holds (is_running row.state) (is_before row.from cut && is_below cut row.to) spot-is.runs (and_holds (is_before row.from cut) (is_below cut row.to) after below)))
    ∙ ap (λ (r : Row). Some (part_below cut row.state row ∷ r ∷ [])) (sym rest)
    ∙ ap Some (sym (two_parts old spot cut number spot.row.state (queued_unless above) kept spot-is.first.there)))

-- a row that ends, as it is seen
done_part : (best : Option (List ℕ)) (row : Row) (work : ℕ) (found above : Bool) → above ≡ is_above best row.from
    → with_state (done_unless above work found) row ∷ [] ≡ ended best row (with_state (Done work found) row ∷ [])
done_part best row work found above is =
    elim above as (λ b. with_state (done_unless b work found) row ∷ [] ≡ (if b then with_state Dropped row ∷ [] else with_state (Done work found) row ∷ [])) [ true ↦ refl | false ↦ refl ]
    ∙ ap (λ (b : Bool). if b then with_state Dropped row ∷ [] else with_state (Done work found) row ∷ []) is

pub close_step : (old new : Tables) (spot : Spot) (work : ℕ) (above : Bool) (state : RowState) → state ≡ done_unless above work false → above ≡ is_above (seen old).best (lower old.cuts.items spot.row.from) → AreKept old → IsRunningSpot old spot
    → HasPut old new spot.place (record spot.row { state = state } ∷ []) None (Closed spot.row.number work) → step (seen old) (Closed spot.row.number work) None ≡ Some (seen new)
close_step old new spot work above state state-is above-is kept spot-is put =
    let row : Row = row_seen old.cuts.items spot.row in
    put_step old new spot (λ r. r.number == spot.row.number) (record spot.row { state = done_unless above work false } ∷ []) None (Closed spot.row.number work) kept spot-is.first (λ r. refl)
    (subst (λ (q : RowState). HasPut old new spot.place (record spot.row { state = q } ∷ []) None (Closed spot.row.number work)) state-is put)
    (where_holds (is_running row.state) (ended (seen old).best row (with_state (Done work false) row ∷ [])) spot-is.runs
    ∙ ap Some (sym (done_part (seen old).best row work false above above-is))
    ∙ ap Some (sym (one_part old spot [] (done_unless above work false) kept spot-is.first.there)))

-- what a return leaves where it is above best or at the lower end
queued_end : (best : Option (List ℕ)) (cut : List ℕ) (number work : ℕ) (row : Row) (above beyond : Bool) → above ≡ is_above best row.from → beyond ≡ is_before row.from cut → (above ≡ true) ⊎ (beyond ≡ false)
    → with_state (queued_unless above) row ∷ [] ≡ ended best row (returned cut number work row)
queued_end best cut number work row above beyond above-is beyond-is which =
    let Parts : Bool → Bool → List Row = λ a b. if a then with_state Dropped row ∷ [] else (if b then part_below cut (Done work false) row ∷ part_from cut number row ∷ [] else with_state Queued row ∷ []) in
    by above beyond which ∙ ap (λ (b : Bool). Parts above b) beyond-is ∙ ap (λ (a : Bool). Parts a (is_before row.from cut)) above-is
  where
    by : (a b : Bool) → (a ≡ true) ⊎ (b ≡ false) → with_state (queued_unless a) row ∷ [] ≡ (if a then with_state Dropped row ∷ [] else (if b then part_below cut (Done work false) row ∷ part_from cut number row ∷ [] else with_state Queued row ∷ []))
    by true b e = refl
    by false false e = refl
    by false true e = absurd (elim e [ inl x ↦ cc | inr x ↦ cc ])

pub queue_step : (old new : Tables) (spot : Spot) (cut : List ℕ) (work place : ℕ) (above beyond : Bool) (state : RowState) → state ≡ queued_unless above → place ≡ length old.cuts.items
    → above ≡ is_above (seen old).best (lower old.cuts.items spot.row.from) → beyond ≡ is_before (lower old.cuts.items spot.row.from) cut → (above ≡ true) ⊎ (beyond ≡ false)
    → AreKept old → IsRunningSpot old spot → may_return cut work (row_seen old.cuts.items spot.row) ≡ true
    → HasPut old new spot.place (record spot.row { state = state } ∷ []) (Some cut) (Returned spot.row.number place work)
    → step (seen old) (Returned spot.row.number (length old.cuts.items) work) (Some cut) ≡ Some (seen new)
queue_step old new spot cut work place above beyond state state-is place-is above-is beyond-is which kept spot-is may put =
    let cuts = old.cuts.items in
    let row : Row = row_seen cuts spot.row in
    let put' = subst (λ (p : ℕ). HasPut old new spot.place (record spot.row { state = queued_unless above } ∷ []) (Some cut) (Returned spot.row.number p work)) place-is
    (subst (λ (q : RowState). HasPut old new spot.place (record spot.row { state = q } ∷ []) (Some cut) (Returned spot.row.number place work)) state-is put) in
    put_step old new spot (λ r. r.number == spot.row.number) (record spot.row { state = queued_unless above } ∷ []) (Some cut) (Returned spot.row.number (length cuts) work) kept spot-is.first (λ r. refl) put'
    (where_holds (is_next_cut (seen old) (length cuts) && may_return cut work row) (ended (seen old).best row (returned cut (length (seen old).rows) work row))
    (and_holds (is_next_cut (seen old) (length cuts)) (may_return cut work row) (same_self (length cuts)) may)
    ∙ ap Some (sym (queued_end (seen old).best cut (length (seen old).rows) work row above beyond above-is beyond-is which))
    ∙ ap Some (sym (one_part old spot (cut ∷ []) (queued_unless above) kept spot-is.first.there)))

pub return_step : (old new : Tables) (spot : Spot) (cut : List ℕ) (work place number : ℕ) → place ≡ length old.cuts.items → number ≡ length old.rows.items
    → is_above (seen old).best (lower old.cuts.items spot.row.from) ≡ false → is_before (lower old.cuts.items spot.row.from) cut ≡ true
    → AreKept old → IsRunningSpot old spot → may_return cut work (row_seen old.cuts.items spot.row) ≡ true
    → HasPut old new spot.place (record spot.row { to = Some place; state = Done work false } ∷ record { number = number; from = Some place; to = spot.row.to; state = Queued } ∷ []) (Some cut) (Returned spot.row.number place work)
    → step (seen old) (Returned spot.row.number (length old.cuts.items) work) (Some cut) ≡ Some (seen new)
return_step old new spot cut work place number place-is number-is not_above after kept spot-is may put =
    let cuts = old.cuts.items in
    let row : Row = row_seen cuts spot.row in
    let put' = subst (λ (p : ℕ). HasPut old new spot.place (record spot.row { to = Some p; state = Done work false } ∷ record { number = number; from = Some p; to = spot.row.to; state = Queued } ∷ []) (Some cut) (Returned spot.row.number p work)) place-is put in
    let count : number ≡ length (seen old).rows = number-is ∙ sym (length-map old.rows.items (row_seen cuts)) in
    let parts : ended (seen old).best row (returned cut (length (seen old).rows) work row) ≡ part_below cut (Done work false) row ∷ part_from cut number row ∷ [] =
    ap (λ (b : Bool). if b then with_state Dropped row ∷ [] else returned cut (length (seen old).rows) work row) not_above
    ∙ ap (λ (b : Bool). if b then part_below cut (Done work false) row ∷ part_from cut (length (seen old).rows) row ∷ [] else with_state Queued row ∷ []) after
    ∙ ap (λ (n : ℕ). part_below cut (Done work false) row ∷ part_from cut n row ∷ []) (sym count) in
    put_step old new spot (λ r. r.number == spot.row.number) (record spot.row { to = Some (length cuts); state = Done work false } ∷ record { number = number; from = Some (length cuts); to = spot.row.to; state = Queued } ∷ [])
    (Some cut) (Returned spot.row.number (length cuts) work) kept spot-is.first (λ r. refl) put'
    (where_holds (is_next_cut (seen old) (length cuts) && may_return cut work row) (ended (seen old).best row (returned cut (length (seen old).rows) work row))
    (and_holds (is_next_cut (seen old) (length cuts)) (may_return cut work row) (same_self (length cuts)) may)
    ∙ ap Some parts ∙ ap Some (sym (two_parts old spot cut number (Done work false) Queued kept spot-is.first.there)))

-- a find, before any row is dropped
pub find_step : (old new : Tables) (spot : Spot) (path : List ℕ) (work place : ℕ) (above : Bool) (state : RowState) → state ≡ done_unless above work true → place ≡ length old.cuts.items
    → above ≡ is_above (seen old).best (lower old.cuts.items spot.row.from) → AreKept old → IsRunningSpot old spot → is_within (lower old.cuts.items spot.row.from) (upper old.cuts.items spot.row.to) path ≡ true
    → HasPut old new spot.place (record spot.row { state = state } ∷ []) (Some path) (Found spot.row.number place work)
    → step (seen old) (Found spot.row.number (length old.cuts.items) work) (Some path) ≡ Some (with_best (if above then None else Some path) (seen new))
find_step old new spot path work place above state state-is place-is above-is kept spot-is within put =
    let cuts = old.cuts.items in
    let row : Row = row_seen cuts spot.row in
    let put' = subst (λ (p : ℕ). HasPut old new spot.place (record spot.row { state = done_unless above work true } ∷ []) (Some path) (Found spot.row.number p work)) place-is
    (subst (λ (q : RowState). HasPut old new spot.place (record spot.row { state = q } ∷ []) (Some path) (Found spot.row.number place work)) state-is put) in
    put_step old new spot (λ r. r.number == spot.row.number) (record spot.row { state = done_unless above work true } ∷ []) (Some path) (Found spot.row.number (length cuts) work) kept spot-is.first (λ r. refl) put'
    (where_holds (is_next_cut (seen old) (length cuts) && (is_running row.state && is_within row.from row.to path)) (ended (seen old).best row (with_state (Done work true) row ∷ []))
    (and_holds (is_next_cut (seen old) (length cuts)) (is_running row.state && is_within row.from row.to path) (same_self (length cuts)) (and_holds (is_running row.state) (is_within row.from row.to path) spot-is.runs within))
    ∙ ap Some (sym (done_part (seen old).best row work true above above-is))
    ∙ ap Some (sym (one_part old spot (path ∷ []) (done_unless above work true) kept spot-is.first.there)))
    ∙ ap (λ (b : Bool). Some (with_best (if b then None else Some path) (seen new))) (sym above-is)

-- the places of the two parts of a row that is cut
pub two_places : (t : Tables) (spot : Spot) (place number : ℕ) (state rest : RowState) → place ≡ length t.cuts.items → AreKept t → slice_get t.rows.items spot.place ≡ Some spot.row
    → All (HasPlaces (length t.cuts.items + 1)) (record spot.row { to = Some place; state = state } ∷ record { number = number; from = Some place; to = spot.row.to; state = rest } ∷ [])
two_places t spot place number state rest place-is kept there =
    let n : ℕ = length t.cuts.items + 1 in
    let has = places_more (length t.cuts.items) n (omega arith) spot.row (spot_places t spot kept there) in
    let first : BookRow = record spot.row { to = Some place; state = state } in
    let second : BookRow = record { number = number; from = Some place; to = spot.row.to; state = rest } in
    All-cons (HasPlaces n) first (second ∷ []) (record { from = has.from; to = omega (arith, place-is) })
    (All-cons (HasPlaces n) second [] (record { from = omega (arith, place-is); to = has.to }) (All-nil (HasPlaces n)))
