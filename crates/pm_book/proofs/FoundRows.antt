-- What a find leaves of the rows: those above the path that were Queued are dropped.
use Rattle.std.proofs.Common.{◌≡◌, ℕ, ◌+◌, ◌∙◌, Bool, true, false, List, [], ◌∷◌, ◌++◌, length, take, drop, map, get_or, refl, sym, ap, subst, inl, inr, arith, append_assoc, length-append}
use Rattle.std.specs.Prelude.{Option, Some, All, slice_get, ◌&&◌, if◌then◌else◌}
use Rattle.std.proofs.lemmas.List.{map-append, length-take}
use Rattle.std.proofs.Math.Seq.{take-append-add, drop-append-add, get_or-append_seam}
use Rattle.std.proofs.lemmas.Option.{slice_get_within}
use Rattle.std.proofs.lemmas.List.{take-append-drop}
use Rattle.std.proofs.lemmas.List.Elements.{All-nil, All-cons, All-head, All-tail, All-append, All-map, All-take, All-drop, All-weaker}
use Rattle.pm_choice.specs.declared.Bound.{Bound}
use Rattle.pm_choice.specs.declared.Bound.TheVariants.{At, End}
use Rattle.pm_choice.specs.Order.{Precedes, PrecedesBound}
use Rattle.pm_choice.proofs.OrderLemmas.{transitive}
use Rattle.pm_book.specs.declared.row.RowState.{RowState}
use Rattle.pm_book.specs.declared.row.RowState.TheVariants.{Done, Dropped}
use Rattle.pm_book.specs.declared.row.BookRow.{BookRow}
use Rattle.pm_book.specs.declared.event.Event.{Event}
use Rattle.pm_book.specs.declared.tables.Tables.{Tables}
use Rattle.pm_book.specs.declared.tables.Spot.{Spot}
use Rattle.pm_book.specs.Rows.{Row, BookState, Tile, is_before, is_within, is_queued, is_above}
use Rattle.pm_book.specs.Steps.{with_state, drop_above, with_best}
use Rattle.pm_book.specs.Always.{AlwaysHolds}
use Rattle.pm_book.specs.Shown.{lower, upper, row_seen, HasPlaces}
use Rattle.pm_book.specs.declared.counts.Counts.{Counts}
use Rattle.pm_book.specs.Inside.Counted.{AreCounted, ArePart, forgets}
use Rattle.pm_book.specs.Inside.Seen.{seen, best_seen, AreKept, HasPut, dropped}
use Rattle.pm_book.proofs.OrderTests.{bool_cases, within_is, is_not_before, before_is, above_more}
use Rattle.pm_book.proofs.Tiles.{tile_round, ends_before, begins_after, none_empty}
use Rattle.pm_book.proofs.Places.{split_at, seen_split, rows_more, same_state, lower_more, put_best, put_rows}
use Rattle.pm_book.proofs.Moves.{spot_places}
use Rattle.pm_book.proofs.Counted.{forget_counts, tail_part}

dropped_seen : (cuts : List (List ℕ)) (path : List ℕ) (row : BookRow) → is_before path (lower cuts row.from) ≡ true → row_seen cuts (dropped row) ≡ drop_above (Some path) (row_seen cuts row)
dropped_seen cuts path row above =
    let after : row_seen cuts (dropped row) ≡ (if is_queued row.state && true then with_state Dropped (row_seen cuts row) else row_seen cuts row) =
    elim (is_queued row.state) as (λ b. row_seen cuts (if b then record row { state = Dropped } else row) ≡ (if b && true then with_state Dropped (row_seen cuts row) else row_seen cuts row)) [ true ↦ refl | false ↦ refl ] in
    after ∙ ap (λ (b : Bool). if is_queued row.state && b then with_state Dropped (row_seen cuts row) else row_seen cuts row) (sym above)

rows_dropped : (cuts : List (List ℕ)) (path : List ℕ) (rows : List BookRow) → All (λ row. is_before path row.from ≡ true) (map (row_seen cuts) rows)
    → map (row_seen cuts) (map dropped rows) ≡ map (drop_above (Some path)) (map (row_seen cuts) rows)
rows_dropped cuts path [] above = refl
rows_dropped cuts path (x ∷ xs) above =
    let a = dropped_seen cuts path x (All-head (λ (row : Row). is_before path row.from ≡ true) (row_seen cuts x) (map (row_seen cuts) xs) above) in
    let b = rows_dropped cuts path xs (All-tail (λ (row : Row). is_before path row.from ≡ true) (row_seen cuts x) (map (row_seen cuts) xs) above) in
    cc

and_false : (a : Bool) → (a && false) ≡ false
and_false true = refl
and_false false = refl

-- rows that aren't above a path stay
unchanged : (path : List ℕ) (rows : List Row) → All (λ row. is_before path row.from ≡ false) rows → map (drop_above (Some path)) rows ≡ rows
unchanged path [] none = refl
unchanged path (x ∷ xs) none =
    let a : drop_above (Some path) x ≡ x =
    ap (λ (b : Bool). if is_queued x.state && b then with_state Dropped x else x) (All-head (λ (row : Row). is_before path row.from ≡ false) x xs none)
    ∙ ap (λ (b : Bool). if b then with_state Dropped x else x) (and_false (is_queued x.state)) in
    let b = unchanged path xs (All-tail (λ (row : Row). is_before path row.from ≡ false) x xs none) in
    cc

-- the rows before a row aren't above a path in it
before_path : (from : Bound) (before : List Row) (row : Row) (path : List ℕ) → Tile from (At row.from) before → (¬ Precedes path row.from) → All (λ other. is_before path other.from ≡ false) before
before_path from before row path tiles not_below k d less =
    is_not_before path (get_or before k d).from
    (λ p. not_below (transitive path (get_or before k d).from row.from p (ends_before from (At row.from) before tiles k d less (get_or before k d).from (none_empty from (At row.from) before tiles k d less))))

front_long : (t : Tables) (spot : Spot) → slice_get t.rows.items spot.place ≡ Some spot.row → length (take spot.place t.rows.items) ≡ spot.place
front_long t spot there =
    let a = length-take spot.place t.rows.items in
    let b = slice_get_within t.rows.items spot.place spot.row there in
    omega (arith, a, b)

-- one row was put at a spot: the rows up to it, and the rows after it
pub put_front : (old new : Tables) (spot : Spot) (row : BookRow) (cut : Option (List ℕ)) (event : Event) → slice_get old.rows.items spot.place ≡ Some spot.row → HasPut old new spot.place (row ∷ []) cut event
    → take (spot.place + 1) new.rows.items ≡ take spot.place old.rows.items ++ (row ∷ [])
put_front old new spot row cut event there put =
    let front = take spot.place old.rows.items in
    let long = front_long old spot there in
    ap (take (spot.place + 1)) put.rows_are ∙ ap (λ (n : ℕ). take (n + 1) (front ++ (row ∷ drop (spot.place + 1) old.rows.items))) (sym long)
    ∙ take-append-add front (row ∷ drop (spot.place + 1) old.rows.items) 1

pub put_back : (old new : Tables) (spot : Spot) (row : BookRow) (cut : Option (List ℕ)) (event : Event) → slice_get old.rows.items spot.place ≡ Some spot.row → HasPut old new spot.place (row ∷ []) cut event
    → drop (spot.place + 1) new.rows.items ≡ drop (spot.place + 1) old.rows.items
put_back old new spot row cut event there put =
    let front = take spot.place old.rows.items in
    let long = front_long old spot there in
    ap (drop (spot.place + 1)) put.rows_are ∙ ap (λ (n : ℕ). drop (n + 1) (front ++ (row ∷ drop (spot.place + 1) old.rows.items))) (sym long)
    ∙ drop-append-add front (row ∷ drop (spot.place + 1) old.rows.items) 1

pub put_long : (old new : Tables) (spot : Spot) (row : BookRow) (cut : Option (List ℕ)) (event : Event) → slice_get old.rows.items spot.place ≡ Some spot.row → HasPut old new spot.place (row ∷ []) cut event
    → length new.rows.items ≡ length old.rows.items
put_long old new spot row cut event there put =
    let a = length-append (take spot.place old.rows.items) (row ∷ drop (spot.place + 1) old.rows.items) in
    let b : length old.rows.items ≡ length (take spot.place old.rows.items) + length (spot.row ∷ drop (spot.place + 1) old.rows.items) =
    ap length (split_at old.rows.items spot.place spot.row there) ∙ length-append (take spot.place old.rows.items) (spot.row ∷ drop (spot.place + 1) old.rows.items) in
    let e : length (spot.row ∷ drop (spot.place + 1) old.rows.items) ≡ length (row ∷ drop (spot.place + 1) old.rows.items) = refl in
    omega (arith, ap length put.rows_are, a, b, e)

-- what `find` does to the tables once its row is Done
pub record HasFound (mid new : Tables) (place at_cut : ℕ) : Type 0 where
  pub rows_are : new.rows.items ≡ take place mid.rows.items ++ map dropped (drop place mid.rows.items)
  pub best_is : new.best ≡ Some at_cut
  pub budget_is : new.budget ≡ mid.budget
  pub cuts_are : new.cuts.items ≡ mid.cuts.items
  pub events_are : new.events.items ≡ mid.events.items

pub found_seen : (old mid new : Tables) (spot : Spot) (row : BookRow) (work : ℕ) (path : List ℕ) (event : Event) → AreKept old → slice_get old.rows.items spot.place ≡ Some spot.row → AlwaysHolds (seen old)
    → is_within (lower old.cuts.items spot.row.from) (upper old.cuts.items spot.row.to) path ≡ true → row.state ≡ Done work true → HasPut old mid spot.place (row ∷ []) (Some path) event
    → HasFound mid new (spot.place + 1) (length old.cuts.items) → seen new ≡ with_best (Some path) (seen mid)
found_seen old mid new spot row work path event kept there always within done put found =
    let O = old.rows.items in
    let cuts = old.cuts.items in
    let f : BookRow → Row = row_seen mid.cuts.items in
    let D : Row → Row = drop_above (Some path) in
    let front = take spot.place O in
    let back = drop (spot.place + 1) O in
    let round = tile_round (At []) End (map (row_seen cuts) front) (row_seen cuts spot.row) (map (row_seen cuts) back) (subst (λ (l : List Row). Tile (At []) End l) (seen_split cuts O spot there) always.tiled) in
    let inside = within_is (lower cuts spot.row.from) path (upper cuts spot.row.to) within in
    let front-is : map f front ≡ map (row_seen cuts) front =
    ap (λ (c : List (List ℕ)). map (row_seen c) front) put.cuts_are ∙ rows_more cuts (path ∷ []) front (All-take (HasPlaces (length cuts)) spot.place O kept.places) in
    let back-is : map f back ≡ map (row_seen cuts) back =
    ap (λ (c : List (List ℕ)). map (row_seen c) back) put.cuts_are ∙ rows_more cuts (path ∷ []) back (All-drop (HasPlaces (length cuts)) (spot.place + 1) O kept.places) in
    let above : All (λ (r : Row). is_before path r.from ≡ true) (map f back) =
    subst (All (λ (r : Row). is_before path r.from ≡ true)) (sym back-is)
    (All-weaker (λ (r : Row). (l : List ℕ) → PrecedesBound l (upper cuts spot.row.to) → Precedes l r.from) (λ (r : Row). is_before path r.from ≡ true)
    (λ r after. (before_is path r.from).1 (after path inside.below)) (map (row_seen cuts) back) (begins_after (upper cuts spot.row.to) End (map (row_seen cuts) back) round.right)) in
    let still : map D (map f front) ≡ map f front =
    ap (map D) front-is ∙ unchanged path (map (row_seen cuts) front) (before_path (At []) (map (row_seen cuts) front) (row_seen cuts spot.row) path round.left inside.not_below) ∙ sym front-is in
    let here : D (f row) ≡ f row =
    ap (λ (s : RowState). if is_queued s && is_before path (f row).from then with_state Dropped (f row) else f row) done in
    let left : map f new.rows.items ≡ (map f front ++ (f row ∷ [])) ++ map D (map f back) =
    ap (map f) found.rows_are ∙ map-append f (take (spot.place + 1) mid.rows.items) (map dropped (drop (spot.place + 1) mid.rows.items))
    ∙ ap (λ (l : List BookRow). map f l ++ map f (map dropped (drop (spot.place + 1) mid.rows.items))) (put_front old mid spot row (Some path) event there put)
    ∙ ap (λ (l : List BookRow). map f (front ++ (row ∷ [])) ++ map f (map dropped l)) (put_back old mid spot row (Some path) event there put)
    ∙ ap (λ (l : List Row). map f (front ++ (row ∷ [])) ++ l) (rows_dropped mid.cuts.items path back above)
    ∙ ap (λ (l : List Row). l ++ map D (map f back)) (map-append f front (row ∷ [])) in
    let right : map D (map f mid.rows.items) ≡ map f front ++ (f row ∷ map D (map f back)) =
    ap (λ (l : List BookRow). map D (map f l)) put.rows_are ∙ ap (map D) (map-append f front (row ∷ back)) ∙ map-append D (map f front) (f row ∷ map f back)
    ∙ ap (λ (l : List Row). l ++ (D (f row) ∷ map D (map f back))) still ∙ ap (λ (r : Row). map f front ++ (r ∷ map D (map f back))) here in
    same_state (seen new) (with_best (Some path) (seen mid))
    (ap (λ (c : List (List ℕ)). map (row_seen c) new.rows.items) found.cuts_are ∙ left ∙ append_assoc (map f front) (f row ∷ []) (map D (map f back)) ∙ sym right)
    (ap (λ (b : Option ℕ). best_seen new.cuts.items b) found.best_is ∙ ap (λ (c : List (List ℕ)). best_seen c (Some (length cuts))) (found.cuts_are ∙ put.cuts_are) ∙ ap Some (get_or-append_seam cuts path [] []))
    found.budget_is found.cuts_are found.events_are

dropped_places : (n : ℕ) (row : BookRow) → HasPlaces n row → HasPlaces n (dropped row)
dropped_places n row has =
    elim (is_queued row.state) as (λ b. HasPlaces n (if b then record row { state = Dropped } else row)) [ true ↦ record { from = has.from; to = has.to } | false ↦ has ]

pub found_places : (mid new : Tables) (place at_cut : ℕ) → AreKept mid → HasFound mid new place at_cut → All (HasPlaces (length new.cuts.items)) new.rows.items
found_places mid new place at_cut kept found =
    let n = length mid.cuts.items in
    let P : BookRow → Type 0 = HasPlaces n in
    let back = drop place mid.rows.items in
    let whole : All P (take place mid.rows.items ++ map dropped back) =
    All-append P (take place mid.rows.items) (map dropped back) (All-take P place mid.rows.items kept.places)
    (All-map P dropped back (All-weaker P (λ (r : BookRow). P (dropped r)) (dropped_places n) back (All-drop P place mid.rows.items kept.places))) in
    subst (λ (l : List (List ℕ)). All (HasPlaces (length l)) new.rows.items) (sym found.cuts_are) (subst (All P) (sym found.rows_are) whole)

-- what is counted after a find: the rows after its row are above best from then on, and those up to it were
-- above it neither before nor after
pub found_counts : (old mid new : Tables) (spot : Spot) (row : BookRow) (work : ℕ) (path : List ℕ) (event : Event) (after : Counts) → AreKept old → slice_get old.rows.items spot.place ≡ Some spot.row → AlwaysHolds (seen old)
    → is_within (lower old.cuts.items spot.row.from) (upper old.cuts.items spot.row.to) path ≡ true → is_above (seen old).best (lower old.cuts.items spot.row.from) ≡ false → row.from ≡ spot.row.from → row.state ≡ Done work true
    → HasPut old mid spot.place (row ∷ []) (Some path) event → AreKept mid → AreCounted after (seen mid).best (map (row_seen mid.cuts.items) (drop (spot.place + 1) mid.rows.items)) → seen new ≡ with_best (Some path) (seen mid)
    → AreCounted (forgets mid.counts after) (seen new).best (seen new).rows
found_counts old mid new spot row work path event after kept there always within not_above from-is done put kept-mid counted seen-is =
    let O = old.rows.items in
    let cuts = old.cuts.items in
    let best = (seen old).best in
    let D : Row → Row = drop_above (Some path) in
    let F : List Row = map (row_seen cuts) (take spot.place O) in
    let here : Row = row_seen (cuts ++ path ∷ []) row in
    let B : List Row = map (row_seen cuts) (drop (spot.place + 1) O) in
    let front : List Row = F ++ (here ∷ []) in
    let round = tile_round (At []) End F (row_seen cuts spot.row) B (subst (λ (l : List Row). Tile (At []) End l) (seen_split cuts O spot there) always.tiled) in
    let inside = within_is (lower cuts spot.row.from) path (upper cuts spot.row.to) within in
    let below = before_path (At []) F (row_seen cuts spot.row) path round.left inside.not_below in
    let from : here.from ≡ lower cuts spot.row.from = ap (lower (cuts ++ path ∷ [])) from-is ∙ lower_more cuts (path ∷ []) spot.row.from (spot_places old spot kept there).from in
    let not_new : All (λ (r : Row). is_before path r.from ≡ false) front =
    All-append (λ (r : Row). is_before path r.from ≡ false) F (here ∷ []) below
    (All-cons (λ (r : Row). is_before path r.from ≡ false) here [] (ap (is_before path) from ∙ is_not_before path (lower cuts spot.row.from) inside.not_below) (All-nil (λ (r : Row). is_before path r.from ≡ false))) in
    let ends = ends_before (At []) (At (lower cuts spot.row.from)) F round.left in
    let full = none_empty (At []) (At (lower cuts spot.row.from)) F round.left in
    let low : All (λ (r : Row). is_above best r.from ≡ false) F = λ k d less.
    elim (bool_cases (is_above best (get_or F k d).from)) [
      | inl yes' ↦ absurd (let up = above_more best (get_or F k d).from (lower cuts spot.row.from) yes' (ends k d less (get_or F k d).from (full k d less)) in cc)
      | inr out ↦ out
    ] in
    let not_old : All (λ (r : Row). is_above best r.from ≡ false) front =
    All-append (λ (r : Row). is_above best r.from ≡ false) F (here ∷ []) low (All-cons (λ (r : Row). is_above best r.from ≡ false) here [] (ap (is_above best) from ∙ not_above) (All-nil (λ (r : Row). is_above best r.from ≡ false))) in
    let above : All (λ (r : Row). is_before path r.from ≡ true) B =
    All-weaker (λ (r : Row). (l : List ℕ) → PrecedesBound l (upper cuts spot.row.to) → Precedes l r.from) (λ (r : Row). is_before path r.from ≡ true)
    (λ r later. (before_is path r.from).1 (later path inside.below)) B (begins_after (upper cuts spot.row.to) End B round.right) in
    let best-is = put_best old mid spot.place (row ∷ []) (Some path) event kept put in
    let rows-are : (seen mid).rows ≡ front ++ B = put_rows old mid spot.place (row ∷ []) (Some path) event kept put ∙ sym (append_assoc F (here ∷ []) B) in
    let all : AreCounted mid.counts best (front ++ B) = subst (λ (b : Option (List ℕ)). AreCounted mid.counts b (front ++ B)) best-is (subst (λ (l : List Row). AreCounted mid.counts (seen mid).best l) rows-are kept-mid.counted) in
    let back-is : map (row_seen mid.cuts.items) (drop (spot.place + 1) mid.rows.items) ≡ B =
    ap (map (row_seen mid.cuts.items)) (put_back old mid spot row (Some path) event there put) ∙ ap (λ (c : List (List ℕ)). map (row_seen c) (drop (spot.place + 1) O)) put.cuts_are
    ∙ rows_more cuts (path ∷ []) (drop (spot.place + 1) O) (All-drop (HasPlaces (length cuts)) (spot.place + 1) O kept.places) in
    let later : AreCounted after best B = subst (λ (b : Option (List ℕ)). AreCounted after b B) best-is (subst (λ (l : List Row). AreCounted after (seen mid).best l) back-is counted) in
    let still : map D front ≡ front = map-append D F (here ∷ []) ∙ ap (λ (l : List Row). l ++ (D here ∷ [])) (unchanged path F below) ∙ ap (λ (r : Row). F ++ (r ∷ [])) (ap (λ (s : RowState). if is_queued s && is_before path here.from then with_state Dropped here else here) done) in
    let made : (seen new).rows ≡ front ++ map D B = ap (λ (b : BookState). b.rows) seen-is ∙ ap (map D) rows-are ∙ map-append D front B ∙ ap (λ (l : List Row). l ++ map D B) still in
    subst (λ (l : List Row). AreCounted (forgets mid.counts after) (seen new).best l) (sym made)
    (subst (λ (b : Option (List ℕ)). AreCounted (forgets mid.counts after) b (front ++ map D B)) (sym (ap (λ (b : BookState). b.best) seen-is)) (forget_counts mid.counts after best path front B all later not_old not_new above))

-- the counts of the rows from a place on are a part of those of all
pub back_part : (t : Tables) (first : ℕ) (after : Counts) → AreKept t → AreCounted after (seen t).best (map (row_seen t.cuts.items) (drop first t.rows.items)) → ArePart after t.counts
back_part t first after kept counted =
    let f : BookRow → Row = row_seen t.cuts.items in
    let whole : (seen t).rows ≡ map f (take first t.rows.items) ++ map f (drop first t.rows.items) =
    ap (map f) (sym (take-append-drop first t.rows.items)) ∙ map-append f (take first t.rows.items) (drop first t.rows.items) in
    tail_part after t.counts (seen t).best (map f (take first t.rows.items)) (map f (drop first t.rows.items)) counted (subst (AreCounted t.counts (seen t).best) whole kept.counted)
