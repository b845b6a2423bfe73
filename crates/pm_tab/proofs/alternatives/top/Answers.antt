use Rattle.std.proofs.Common.{Some, sym, ◌∙◌, ap}
use Rattle.std.proofs.lemmas.Option.{slice_get-get_or, slice_get_past}
use Rattle.pm_tab.proofs.Passing.{top_free, top_app, top_none}
use Rattle.pm_tab.proofs.alternatives.top.Goals as goal

pub returns-in-Free : goal.returns-in-Free
returns-in-Free c =
    let found = c.in-Some.ensures.lookup in
    let cell = c.in-Some.field-0.now in
    top_free c.args.store.now c.args.args.now c.args.q cell c.in-Free.field-0 c.in-Free.ensures.sound
    (slice_get-get_or c.args.args.now c.args.q cell found.3.0 ∙ ap Some (sym found.1)) c.in-Free.ensures.tree c.in-Free.ensures.shown.1

pub returns-in-App : goal.returns-in-App
returns-in-App c =
    let found = c.in-Some.ensures.lookup in
    let cell = c.in-Some.field-0.now in
    top_app c.args.store.now c.args.args.now c.args.q cell c.in-App.symbol c.in-App.args.now
    (slice_get-get_or c.args.args.now c.args.q cell found.3.0 ∙ ap Some (sym found.1)) c.in-App.ensures.tree

pub returns-in-None : goal.returns-in-None
returns-in-None c = top_none c.args.store.now c.args.args.now c.args.q (slice_get_past c.args.args.now c.args.q c.in-None.ensures.lookup.3)
