use Rattle.std.proofs.Common.{◌∙◌, ap, List, ℕ, false, refl, sym}
use Rattle.pm_book.specs.declared.row.RowState.TheVariants.{Queued, Done}
use Rattle.pm_book.specs.Rows.{is_above, is_before, is_running}
use Rattle.pm_book.specs.Shown.{lower}
use Rattle.pm_book.specs.Inside.Seen.{seen}
use Rattle.pm_book.proofs.Moves.{queue_step, return_step, end_room, queued_stops, spot_place, two_places}
use Rattle.pm_book.proofs.OrderTests.{whole_is, parted_is}
use Rattle.pm_book.proofs.tables.Tables.give_back.Goals as goal

pub put-requires-clause-room : goal.put-requires-clause-room
put-requires-clause-room c =
    end_room c.args.self.now c.args.spot c.queued_unless.result c.requires.kept c.requires.spot.first.there c.requires.spot.runs
    (ap is_running c.queued_unless.ensures ∙ queued_stops c.is_above-above.result)

pub put-requires-clause-places : goal.put-requires-clause-places
put-requires-clause-places c = spot_place c.args.self.now c.args.spot 1 c.queued_unless.result c.requires.kept c.requires.spot.first.there

pub returns-then-stays_whole-clause-step : goal.returns-then-stays_whole-clause-step
returns-then-stays_whole-clause-step c =
    queue_step c.args.self.now c.put.new.self c.args.spot c.args.cut c.args.work c.len-place.result c.is_above-above.result c.is_before-beyond.result c.queued_unless.result c.queued_unless.ensures
    (c.len-place.ensures ∙ c.args.self.now.cuts.ok.0)
    (c.is_above-above.ensures ∙ ap (λ (l : List ℕ). is_above (seen c.args.self.now).best l) c.lower-from.ensures)
    (c.is_before-beyond.ensures ∙ ap (λ (l : List ℕ). is_before l c.as_slice.result.now) c.lower-from.ensures ∙ ap (λ (l : List ℕ). is_before (lower c.args.self.now.cuts.items c.args.spot.row.from) l) c.as_slice.ensures)
    (whole_is c.is_above-above.result c.is_before-beyond.result (sym c.stays_whole.ensures ∙ c.if-stays_whole.true))
    c.requires.kept c.requires.spot c.requires.may c.put.ensures.put

pub put-requires-2-clause-room : goal.put-requires-2-clause-room
put-requires-2-clause-room c = end_room c.args.self.now c.args.spot (Done c.args.work false) c.requires.kept c.requires.spot.first.there c.requires.spot.runs refl

pub put-requires-2-clause-places : goal.put-requires-2-clause-places
put-requires-2-clause-places c =
    two_places c.args.self.now c.args.spot c.len-place.result c.len.result (Done c.args.work false) Queued (c.len-place.ensures ∙ c.args.self.now.cuts.ok.0) c.requires.kept c.requires.spot.first.there

pub returns-clause-step : goal.returns-clause-step
returns-clause-step c =
    let above-is = c.is_above-above.ensures ∙ ap (λ (l : List ℕ). is_above (seen c.args.self.now).best l) c.lower-from.ensures in
    let beyond-is = c.is_before-beyond.ensures ∙ ap (λ (l : List ℕ). is_before l c.as_slice.result.now) c.lower-from.ensures ∙ ap (λ (l : List ℕ). is_before (lower c.args.self.now.cuts.items c.args.spot.row.from) l) c.as_slice.ensures in
    let parted = parted_is c.is_above-above.result c.is_before-beyond.result (sym c.stays_whole.ensures ∙ c.if-stays_whole.false) in
    return_step c.args.self.now c.put-2.new.self c.args.spot c.args.cut c.args.work c.len-place.result c.len.result
    (c.len-place.ensures ∙ c.args.self.now.cuts.ok.0) (c.len.ensures ∙ c.args.self.now.rows.ok.0)
    (sym above-is ∙ parted.0) (sym beyond-is ∙ parted.1)
    c.requires.kept c.requires.spot c.requires.may c.put-2.ensures.put
