use Rattle.std.proofs.Common.{◌≡◌, ◌∙◌, ◌+◌, ap, sym, refl, Bool, List, ℕ, [], ◌∷◌, true, false, arith, subst, take, length, length-append}
use Rattle.pm_book.specs.declared.event.Event.TheVariants.{Found}
use Rattle.std.specs.Prelude.{Some, None, All, if◌then◌else◌}
use Rattle.std.proofs.lemmas.Option.{slice_get_within}
use Rattle.pm_book.specs.declared.row.RowState.TheVariants.{Done}
use Rattle.pm_book.specs.declared.tables.Tables.{Tables}
use Rattle.pm_book.specs.Rows.{is_above, is_running}
use Rattle.pm_book.specs.Steps.{with_best}
use Rattle.pm_book.specs.declared.counts.Counts.{Counts}
use Rattle.pm_book.specs.declared.row.BookRow.{BookRow}
use Rattle.pm_book.specs.Shown.{lower}
use Rattle.pm_book.specs.Inside.Counted.{AreCounted}
use Rattle.pm_book.specs.Inside.Seen.{seen, done_unless, HasLowers}
use Rattle.pm_book.proofs.Moves.{find_step, end_room, done_stops, spot_place}
use Rattle.pm_book.proofs.FoundRows.{HasFound, found_seen, found_places, found_counts, back_part, put_long}
use Rattle.pm_book.proofs.Stays.{Rests, lowers_dropped, hint_dropped}
use Rattle.pm_book.proofs.tables.Tables.find.Goals as goal

pub put-requires-clause-room : goal.put-requires-clause-room
put-requires-clause-room c =
    end_room c.args.self.now c.args.spot c.done_unless.result c.requires.kept c.requires.spot.first.there c.requires.spot.runs
    (ap is_running c.done_unless.ensures ∙ done_stops c.is_above-above.result c.args.work true)

pub put-requires-clause-places : goal.put-requires-clause-places
put-requires-clause-places c = spot_place c.args.self.now c.args.spot 1 c.done_unless.result c.requires.kept c.requires.spot.first.there

pub overflow_add-first : goal.overflow_add-first
overflow_add-first c =
    let within = slice_get_within c.args.self.now.rows.items c.args.spot.place c.args.spot.row c.requires.spot.first.there in
    omega (arith, within, c.args.self.now.rows.ok.0, c.args.self.now.rows.small)

pub count_from-after-requires-clause-first : goal.count_from-after-requires-clause-first
count_from-after-requires-clause-first c =
    let within = slice_get_within c.args.self.now.rows.items c.args.spot.place c.args.spot.row c.requires.spot.first.there in
    let long = put_long c.args.self.now c.put.new.self c.args.spot _ _ _ c.requires.spot.first.there c.put.ensures.put in
    omega (arith, within, long, c.put.new.self.rows.ok.0)

pub forget-self-requires : goal.forget-self-requires
forget-self-requires c = back_part c.put.new.self (c.args.spot.place + 1) c.count_from-after.result c.put.ensures.kept c.count_from-after.ensures

pub drop_rows-requires : goal.drop_rows-requires
drop_rows-requires c =
    let within = slice_get_within c.args.self.now.rows.items c.args.spot.place c.args.spot.row c.requires.spot.first.there in
    let long = put_long c.args.self.now c.put.new.self c.args.spot _ _ _ c.requires.spot.first.there c.put.ensures.put in
    omega (arith, within, long, c.put.new.self.rows.ok.0)

pub returns-then-not-above-clause-step : goal.returns-then-not-above-clause-step
returns-then-not-above-clause-step c =
    let old = c.args.self.now in
    let mid = c.put.new.self in
    let path = c.args.path in
    let place-is : c.len-place.result ≡ length old.cuts.items = c.len-place.ensures ∙ old.cuts.ok.0 in
    let new : Tables = record mid { rows = c.drop_rows.new.rows; best = Some c.len-place.result; counts = c.forget-self.result } in
    let found : HasFound mid new (c.args.spot.place + 1) (length old.cuts.items) = record {
      rows_are = c.drop_rows.ensures.items;
      best_is = ap Some place-is;
      budget_is = refl;
      cuts_are = refl;
      events_are = refl;
    } in
    let done : c.done_unless.result ≡ Done c.args.work true = c.done_unless.ensures ∙ ap (λ (a : Bool). done_unless a c.args.work true) c.if-not-above.true in
    find_step old mid c.args.spot path c.args.work c.len-place.result c.is_above-above.result c.done_unless.result c.done_unless.ensures place-is
    (c.is_above-above.ensures ∙ ap (λ (l : List ℕ). is_above (seen old).best l) c.lower.ensures) c.requires.kept c.requires.spot c.requires.within c.put.ensures.put
    ∙ ap (λ (a : Bool). Some (with_best (if a then None else Some path) (seen mid))) c.if-not-above.true
    ∙ ap Some (sym (found_seen old mid new c.args.spot (record c.args.spot.row { state = c.done_unless.result }) c.args.work path (Found c.args.spot.row.number c.len-place.result c.args.work) c.requires.kept c.requires.spot.first.there c.requires.always c.requires.within done c.put.ensures.put found))

pub returns-then-not-above-clause-kept : goal.returns-then-not-above-clause-kept
returns-then-not-above-clause-kept c =
    let old = c.args.self.now in
    let mid = c.put.new.self in
    let path = c.args.path in
    let first = c.args.spot.place + 1 in
    let row = record c.args.spot.row { state = c.done_unless.result } in
    let event = Found c.args.spot.row.number c.len-place.result c.args.work in
    let there = c.requires.spot.first.there in
    let place-is : c.len-place.result ≡ length old.cuts.items = c.len-place.ensures ∙ old.cuts.ok.0 in
    let new : Tables = record mid { rows = c.drop_rows.new.rows; best = Some c.len-place.result; counts = c.forget-self.result } in
    let found : HasFound mid new first (length old.cuts.items) = record {
      rows_are = c.drop_rows.ensures.items;
      best_is = ap Some place-is;
      budget_is = refl;
      cuts_are = refl;
      events_are = refl;
    } in
    let done : c.done_unless.result ≡ Done c.args.work true = c.done_unless.ensures ∙ ap (λ (a : Bool). done_unless a c.args.work true) c.if-not-above.true in
    let not_above : is_above (seen old).best (lower old.cuts.items c.args.spot.row.from) ≡ false =
    sym (c.is_above-above.ensures ∙ ap (λ (l : List ℕ). is_above (seen old).best l) c.lower.ensures) ∙ c.if-not-above.true in
    let seen-is = found_seen old mid new c.args.spot row c.args.work path event c.requires.kept there c.requires.always c.requires.within done c.put.ensures.put found in
    let counted = found_counts old mid new c.args.spot row c.args.work path event c.count_from-after.result c.requires.kept there c.requires.always c.requires.within not_above refl done c.put.ensures.put c.put.ensures.kept c.count_from-after.ensures seen-is in
    let more = ap length c.put.ensures.put.cuts_are ∙ length-append old.cuts.items (path ∷ []) in
    let kept = c.put.ensures.kept in
    let long : length new.rows.items ≡ length mid.rows.items = omega (arith, c.drop_rows.ensures.length, c.drop_rows.new.rows.ok.0, mid.rows.ok.0) in
    record {
      places = found_places mid new first (length old.cuts.items) kept found;
      best = omega (arith, more, place-is);
      lowers = subst (HasLowers mid.lowers.items) (sym c.drop_rows.ensures.items) (lowers_dropped mid.lowers.items first mid.rows.items kept.lowers (ap length (sym c.drop_rows.ensures.items) ∙ long));
      counted = subst (λ (n : Counts). AreCounted n (seen new).best (seen new).rows) (sym c.forget-self.ensures) counted;
      few = (let spent = ap (λ (n : Counts). n.spent) c.forget-self.ensures in omega (arith, spent, kept.few));
      hint = subst (λ (l : List BookRow). All Rests (take mid.hint l)) (sym c.drop_rows.ensures.items) (hint_dropped mid.hint first mid.rows.items kept.hint);
      room = (let running = ap (λ (n : Counts). n.running) c.forget-self.ensures in record {
        rows = omega (arith, running, kept.room.rows, c.drop_rows.ensures.length, c.drop_rows.ensures.capacity);
        cuts = omega (arith, running, kept.room.cuts);
        events = omega (arith, running, kept.room.events);
        lowers = omega (arith, running, kept.room.lowers);
      });
    }

pub returns-else-not-above-clause-step : goal.returns-else-not-above-clause-step
returns-else-not-above-clause-step c =
    let old = c.args.self.now in
    let mid = c.put.new.self in
    let place-is : c.len-place.result ≡ length old.cuts.items = c.len-place.ensures ∙ old.cuts.ok.0 in
    find_step old mid c.args.spot c.args.path c.args.work c.len-place.result c.is_above-above.result c.done_unless.result c.done_unless.ensures place-is
    (c.is_above-above.ensures ∙ ap (λ (l : List ℕ). is_above (seen old).best l) c.lower.ensures) c.requires.kept c.requires.spot c.requires.within c.put.ensures.put
    ∙ ap (λ (a : Bool). Some (with_best (if a then None else Some c.args.path) (seen mid))) c.if-not-above.false
