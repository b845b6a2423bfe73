-- A settled book that honest events made tells of all entries.
use Rattle.std.proofs.Common.{◌≡◌, ℕ, ◌⊎◌, ◌∙◌, true, false, List, [], ◌∷◌, ◌++◌, length, refl, sym, ap, subst, inl, inr, get_or}
use Rattle.std.specs.Prelude.{Option, Some, None, All, if◌then◌else◌}
use Rattle.std.proofs.lemmas.List.{append_assoc}
use Rattle.std.proofs.lemmas.List.Elements.{All-nil, All-cons, All-head, All-tail, All-append, All-map}
use Rattle.pm_choice.specs.declared.Bound.{Bound}
use Rattle.pm_choice.specs.declared.Bound.TheVariants.{At, End}
use Rattle.pm_choice.specs.Order.{IsWithin}
use Rattle.pm_choice.specs.Entries.{Entries, Closes, Finds}
use Rattle.pm_book.specs.declared.row.RowState.{RowState}
use Rattle.pm_book.specs.declared.row.RowState.TheVariants.{Queued, Running, Done, Dropped}
use Rattle.pm_book.specs.declared.event.Event.{Event}
use Rattle.pm_book.specs.declared.event.Event.TheVariants.{Returned, Found}
use Rattle.pm_book.specs.Rows.{Row, BookState, Tile, is_running, is_found, is_above}
use Rattle.pm_book.specs.Steps.{new_book, with_state, part_below, part_from, drop_above, step, replayed, cut_of}
use Rattle.pm_book.specs.Always.{AlwaysHolds}
use Rattle.pm_book.specs.Honest.{IsTrueAt, IsHonest, AreHonest, front_from, front_of, SettledBooksTell}
use Rattle.pm_book.specs.Fronts.{IsTrueState, IsTrueRow}
use Rattle.pm_book.proofs.OrderTests.{before_is, above_more}
use Rattle.pm_book.proofs.Tiles.{tile_round, TilesRound, ends_before, begins_after, none_empty}
use Rattle.pm_book.proofs.Changes.{Change, IsAllowed, IsBy, stepped}
use Rattle.pm_book.proofs.Changes.Change.{starts, divides, drops, requeues, gives_back, closes, finds}
use Rattle.pm_book.proofs.Kept.{changed_rows, rows_after, best_after, all_left, all_right}
use Rattle.pm_book.proofs.Fronts.{fronts_stop, fronts_tell}
use Rattle.pm_book.proofs.Always.{among, one, two, moved, always_stepped, always_new, each_replay_holds, none_stays}

-- What a row says of the entries: a Done row has told the truth. Of a found row the path is best, or the
-- row is above best.
abbrev Tells : Entries → Option (List ℕ) → List ℕ → Bound → RowState → Type 0
Tells entries best from to (Done work false) = Closes entries from to work
Tells entries best from to (Done work true) = (path : List ℕ) × Finds entries from to path work × ((best ≡ Some path) ⊎ (is_above best from ≡ true))
Tells entries best from to state = Unit {0}

abbrev RowTells : Entries → Option (List ℕ) → Row → Type 0
RowTells entries best row = Tells entries best row.from row.to row.state

running_tells : (entries : Entries) (best : Option (List ℕ)) (from : List ℕ) (to : Bound) (state : RowState) → is_running state ≡ true → Tells entries best from to state
running_tells entries best from to (Running worker) e = tt
running_tells entries best from to Queued e = absurd cc
running_tells entries best from to (Done work found) e = absurd cc
running_tells entries best from to Dropped e = absurd cc

drop_tells : (entries : Entries) (best later : Option (List ℕ)) (number : ℕ) (from : List ℕ) (to : Bound) (state : RowState) → Tells entries best from to state
    → ((path : List ℕ) → IsWithin from to path → (best ≡ Some path) ⊎ (is_above best from ≡ true) → is_above later from ≡ true)
    → RowTells entries later (drop_above later (record { number = number; from = from; to = to; state = state }))
drop_tells entries best later number from to Queued tells above =
    elim (is_above later from) as (λ b. RowTells entries later (if b then record { number = number; from = from; to = to; state = Dropped } else record { number = number; from = from; to = to; state = Queued })) [ true ↦ tt | false ↦ tt ]
drop_tells entries best later number from to (Running worker) tells above = tt
drop_tells entries best later number from to (Done work false) tells above = tells
drop_tells entries best later number from to (Done work true) tells above = (tells.0, tells.1, inr (above tells.0 tells.1.first.passes tells.2))
drop_tells entries best later number from to Dropped tells above = tt

-- what an honest event says of its change
abbrev IsTrueOf : Entries → Change → Row → Type 0
IsTrueOf entries (gives_back cut work) row = Closes entries row.from (At cut) work
IsTrueOf entries (closes work) row = Closes entries row.from row.to work
IsTrueOf entries (finds path work) row = Finds entries row.from row.to path work
IsTrueOf entries change row = Unit {0}

true_of : (entries : Entries) (event : Event) (cut : Option (List ℕ)) (change : Change) (row : Row) → IsBy event cut change → IsTrueAt entries event cut row → IsTrueOf entries change row
true_of entries event cut (starts worker) row is_by holds = tt
true_of entries event cut (divides list) row is_by holds = tt
true_of entries event cut drops row is_by holds = tt
true_of entries event cut requeues row is_by holds = tt
true_of entries event cut (gives_back list work) row is_by holds =
    subst (λ (c : Option (List ℕ)). IsTrueAt entries (Returned is_by.0 is_by.1 work) c row) is_by.3 (subst (λ (e : Event). IsTrueAt entries e cut row) is_by.2 holds)
true_of entries event cut (closes work) row is_by holds = subst (λ (e : Event). IsTrueAt entries e cut row) is_by.1 holds
true_of entries event cut (finds path work) row is_by holds =
    subst (λ (c : Option (List ℕ)). IsTrueAt entries (Found is_by.0 is_by.1 work) c row) is_by.3 (subst (λ (e : Event). IsTrueAt entries e cut row) is_by.2 holds)

found_tells : (entries : Entries) (book : BookState) (path : List ℕ) (work : ℕ) (row : Row) (before after : List Row) → book.rows ≡ before ++ row ∷ after → TilesRound (At []) End before row after
    → IsAllowed book (finds path work) row → Finds entries row.from row.to path work → All (RowTells entries book.best) book.rows → All (RowTells entries (Some path)) (rows_after book (finds path work) row before after)
found_tells entries book path work row before after is round may holds tells =
    let T : Row → Type 0 = RowTells entries book.best in
    let all : All T (before ++ row ∷ after) = subst (λ (l : List Row). All T l) is tells in
    let old : All T before = all_left T before (row ∷ after) all in
    let old' : All T after = all_right T (row ∷ []) after (all_right T before (row ∷ after) all) in
    let ends = ends_before (At []) (At row.from) before round.left in
    let full = none_empty (At []) (At row.from) before round.left in
    let begins = begins_after row.to End after round.right in
    let P : Row → Type 0 = λ y. RowTells entries (Some path) (drop_above (Some path) y) in
    All-map (RowTells entries (Some path)) (drop_above (Some path)) (changed_rows book (finds path work) row before after)
    (All-append P before (with_state (Done work true) row ∷ after)
    (λ k d less. let y : Row = get_or before k d in drop_tells entries book.best (Some path) y.number y.from y.to y.state (old k d less)
    (λ p within either.
    let above : is_above book.best row.from ≡ true = elim either [
      | inl is_best ↦ subst (λ (b : Option (List ℕ)). is_above b row.from ≡ true) (sym is_best) ((before_is p row.from).1 (ends k d less p within.below))
      | inr above ↦ above_more book.best y.from row.from above (ends k d less y.from (full k d less))
    ] in
    let not_above = may.1 in absurd cc))
    (All-cons P (with_state (Done work true) row) after (path, holds, inl refl)
    (λ k d less. let y : Row = get_or after k d in drop_tells entries book.best (Some path) y.number y.from y.to y.state (old' k d less)
    (λ p within either. (before_is path y.from).1 (begins k d less path may.2.below)))))

tells_after : (entries : Entries) (book : BookState) (change : Change) (row : Row) (before after : List Row) → book.rows ≡ before ++ row ∷ after → TilesRound (At []) End before row after
    → IsAllowed book change row → IsTrueOf entries change row → All (RowTells entries book.best) book.rows → All (RowTells entries (best_after book change)) (rows_after book change row before after)
tells_after entries book (starts worker) row before after is round may holds tells =
    among (RowTells entries book.best) book (starts worker) row before after is tells (one (RowTells entries book.best) (with_state (Running worker) row) tt)
tells_after entries book (divides cut) row before after is round may holds tells =
    among (RowTells entries book.best) book (divides cut) row before after is tells
    (two (RowTells entries book.best) (part_below cut row.state row) (drop_above book.best (part_from cut (length book.rows) row)) (running_tells entries book.best row.from (At cut) row.state may.0)
    (elim (is_above book.best cut) as (λ b. RowTells entries book.best (if b then with_state Dropped (part_from cut (length book.rows) row) else part_from cut (length book.rows) row)) [ true ↦ tt | false ↦ tt ]))
tells_after entries book drops row before after is round may holds tells =
    among (RowTells entries book.best) book drops row before after is tells (one (RowTells entries book.best) (with_state Dropped row) tt)
tells_after entries book requeues row before after is round may holds tells =
    among (RowTells entries book.best) book requeues row before after is tells (one (RowTells entries book.best) (with_state Queued row) tt)
tells_after entries book (gives_back cut work) row before after is round may holds tells =
    among (RowTells entries book.best) book (gives_back cut work) row before after is tells
    (two (RowTells entries book.best) (part_below cut (Done work false) row) (part_from cut (length book.rows) row) holds tt)
tells_after entries book (closes work) row before after is round may holds tells =
    among (RowTells entries book.best) book (closes work) row before after is tells (one (RowTells entries book.best) (with_state (Done work false) row) holds)
tells_after entries book (finds path work) row before after is round may holds tells = found_tells entries book path work row before after is round may holds tells

tells_stepped : (entries : Entries) (book : BookState) (event : Event) (cut : Option (List ℕ)) (later : BookState) → AlwaysHolds book → All (RowTells entries book.best) book.rows → IsHonest entries book event cut
    → step book event cut ≡ Some later → All (RowTells entries later.best) later.rows
tells_stepped entries book event cut later always tells honest e =
    let s = stepped book event cut later e in
    let m = moved book event cut later s in
    let round = tile_round (At []) End s.first.before s.row s.first.after (subst (λ (l : List Row). Tile (At []) End l) s.first.is always.tiled) in
    let holds = true_of entries event cut s.changes.change s.row s.changes.is_by (honest s.row s.about) in
    subst (λ (l : List Row). All (RowTells entries later.best) l) (sym m.rows_are)
    (subst (λ (b : Option (List ℕ)). All (RowTells entries b) (rows_after book s.changes.change s.row s.first.before s.first.after)) (sym m.best_is)
    (tells_after entries book s.changes.change s.row s.first.before s.first.after s.first.is round s.changes.allowed holds tells))

abbrev IfBookTells : Entries → Option BookState → Type 0
IfBookTells entries None = Unit {0}
IfBookTells entries (Some book) = All (RowTells entries book.best) book.rows

tells_along : (entries : Entries) (cuts : List (List ℕ)) (events : List Event) (start : BookState) → AlwaysHolds start → All (RowTells entries start.best) start.rows → AreHonest entries cuts events (Some start)
    → (book : BookState) → replayed cuts events (Some start) ≡ Some book → All (RowTells entries book.best) book.rows
tells_along entries cuts [] start always tells honest book e = subst (IfBookTells entries) e tells
tells_along entries cuts (event ∷ events) start always tells honest book e =
    by (step start event (cut_of cuts event)) refl e honest.1 (λ later a t h same. tells_along entries cuts events later a t h book same)
  where
    by : (o : Option BookState) → step start event (cut_of cuts event) ≡ o → replayed cuts events o ≡ Some book → AreHonest entries cuts events o
        → ((later : BookState) → AlwaysHolds later → All (RowTells entries later.best) later.rows → AreHonest entries cuts events (Some later) → replayed cuts events (Some later) ≡ Some book → All (RowTells entries book.best) book.rows)
        → All (RowTells entries book.best) book.rows
    by None is same rest go = absurd (let n = none_stays cuts events in cc)
    by (Some later) is same rest go =
        go later (always_stepped start event (cut_of cuts event) later always is) (tells_stepped entries start event (cut_of cuts event) later always tells honest.0 is) rest same

abbrev Unfound : Row → Type 0
Unfound other = is_found other.state ≡ false

-- the front of the rows after some that weren't found
front_true : (entries : Entries) (book : BookState) → AlwaysHolds book → (rows before : List Row) → book.rows ≡ before ++ rows → All Unfound before → All (RowTells entries book.best) rows
    → All (IsTrueRow entries book.best) (front_of rows)
front_true entries book always [] before is unfound tells = All-nil (IsTrueRow entries book.best)
front_true entries book always (row ∷ rows) before is unfound tells =
    by row.state refl (All-head (RowTells entries book.best) row rows tells)
    (λ here. front_true entries book always rows (before ++ row ∷ []) (is ∙ sym (append_assoc before (row ∷ []) rows)) (All-append Unfound before (row ∷ []) unfound (All-cons Unfound row [] here (All-nil Unfound))) (All-tail (RowTells entries book.best) row rows tells))
  where
    T : Row → Type 0
    T = IsTrueRow entries book.best

    by : (state : RowState) → row.state ≡ state → Tells entries book.best row.from row.to state → (Unfound row → All T (front_of rows)) → All T (front_from row state (front_of rows))
    by Queued is' tells' go = All-nil T
    by (Running worker) is' tells' go = All-nil T
    by Dropped is' tells' go = All-nil T
    by (Done work false) is' tells' go =
        All-cons T row (front_of rows) (subst (IsTrueState entries book.best row.from row.to) (sym is') tells') (go (ap is_found is'))
    by (Done work true) is' tells' go =
        let best-is : book.best ≡ Some tells'.0 = elim tells'.2 [
          | inl same ↦ same
          | inr above ↦ absurd (let not_above = fronts_stop book before row rows always is unfound in cc)
        ] in
        let holds : IsTrueState entries book.best row.from row.to (Done work true) = (tells'.0, best-is, tells'.1) in
        All-cons T row [] (subst (IsTrueState entries book.best row.from row.to) (sym is') holds) (All-nil T)

pub settled_tells : (entries : Entries) → SettledBooksTell entries
settled_tells entries most budget cuts events book e honest settled =
    let always = each_replay_holds budget cuts events book e in
    let tells = tells_along entries cuts events (new_book budget) (always_new budget) (All-cons (RowTells entries None) _ [] tt (All-nil (RowTells entries None))) honest book e in
    fronts_tell entries most book always (front_true entries book always book.rows [] refl (All-nil Unfound) tells) settled
