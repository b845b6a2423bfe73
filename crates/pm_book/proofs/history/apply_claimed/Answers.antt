use Rattle.std.proofs.Common.{◌∙◌, sym, refl, [], ◌∷◌}
use Rattle.std.specs.Prelude.{None, ◌==◌}
use Rattle.pm_book.specs.declared.row.RowState.TheVariants.{Running}
use Rattle.pm_book.specs.declared.event.Event.TheVariants.{Claimed}
use Rattle.pm_book.specs.Rows.{is_queued}
use Rattle.pm_book.specs.Steps.{with_state}
use Rattle.pm_book.specs.Shown.{row_seen}
use Rattle.pm_book.proofs.BookLemmas.{unfound, refused, allowed, any_err}
use Rattle.pm_book.proofs.history.apply_claimed.Goals as goal

pub returns-in_default-clause-applied : goal.returns-in_default-clause-applied
returns-in_default-clause-applied c = unfound c.args.tables.now (λ row. row.number == c.args.row) (Claimed c.args.worker c.args.row) None (λ r. refl) c.in_default.ensures

pub returns-then-not-is_queued-clause-applied : goal.returns-then-not-is_queued-clause-applied
returns-then-not-is_queued-clause-applied c =
    let t = c.args.tables.now in
    let spot = c.in-Some.spot in
    refused t spot (λ row. row.number == c.args.row) (Claimed c.args.worker c.args.row) None (λ r. refl) c.in-Some.ensures
    (is_queued spot.row.state) (with_state (Running c.args.worker) (row_seen t.cuts.items spot.row) ∷ []) refl (sym c.is_queued.ensures ∙ c.if-not-is_queued.true)

pub returns-in_err-make_room-clause-memory : goal.returns-in_err-make_room-clause-memory
returns-in_err-make_room-clause-memory c =
    let t = c.args.tables.now in
    let spot = c.in-Some.spot in
    any_err c.from_residual.result (allowed t spot (λ row. row.number == c.args.row) (Claimed c.args.worker c.args.row) None (λ r. refl) c.in-Some.ensures
    (is_queued spot.row.state) (with_state (Running c.args.worker) (row_seen t.cuts.items spot.row) ∷ []) refl (sym c.is_queued.ensures ∙ c.if-not-is_queued.false))
