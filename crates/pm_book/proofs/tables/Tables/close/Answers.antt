use Rattle.std.proofs.Common.{◌∙◌, ap, List, ℕ, false}
use Rattle.pm_book.specs.Rows.{is_above, is_running}
use Rattle.pm_book.specs.Inside.Seen.{seen}
use Rattle.pm_book.proofs.Moves.{close_step, end_room, done_stops, spot_place}
use Rattle.pm_book.proofs.tables.Tables.close.Goals as goal

pub put-requires-clause-room : goal.put-requires-clause-room
put-requires-clause-room c =
    end_room c.args.self.now c.args.spot c.done_unless.result c.requires.kept c.requires.spot.first.there c.requires.spot.runs
    (ap is_running c.done_unless.ensures ∙ done_stops c.is_above-above.result c.args.work false)

pub put-requires-clause-places : goal.put-requires-clause-places
put-requires-clause-places c = spot_place c.args.self.now c.args.spot 0 c.done_unless.result c.requires.kept c.requires.spot.first.there

pub returns-clause-step : goal.returns-clause-step
returns-clause-step c =
    close_step c.args.self.now c.put.new.self c.args.spot c.args.work c.is_above-above.result c.done_unless.result c.done_unless.ensures
    (c.is_above-above.ensures ∙ ap (λ (l : List ℕ). is_above (seen c.args.self.now).best l) c.lower.ensures)
    c.requires.kept c.requires.spot c.put.ensures.put
