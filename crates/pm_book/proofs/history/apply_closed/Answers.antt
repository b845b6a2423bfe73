use Rattle.std.proofs.Common.{◌∙◌, sym, refl, false, [], ◌∷◌}
use Rattle.std.specs.Prelude.{None, ◌==◌}
use Rattle.pm_book.specs.declared.row.RowState.TheVariants.{Done}
use Rattle.pm_book.specs.declared.event.Event.TheVariants.{Closed}
use Rattle.pm_book.specs.Rows.{is_running}
use Rattle.pm_book.specs.Steps.{with_state, ended}
use Rattle.pm_book.specs.Shown.{row_seen}
use Rattle.pm_book.specs.Inside.Seen.{seen}
use Rattle.pm_book.proofs.BookLemmas.{unfound, refused}
use Rattle.pm_book.proofs.history.apply_closed.Goals as goal

pub returns-in_default-clause-applied : goal.returns-in_default-clause-applied
returns-in_default-clause-applied c = unfound c.args.tables.now (λ row. row.number == c.args.row) (Closed c.args.row c.args.work) None (λ r. refl) c.in_default.ensures

pub returns-then-not-is_running-clause-applied : goal.returns-then-not-is_running-clause-applied
returns-then-not-is_running-clause-applied c =
    let t = c.args.tables.now in
    let spot = c.in-Some.spot in
    refused t spot (λ row. row.number == c.args.row) (Closed c.args.row c.args.work) None (λ r. refl) c.in-Some.ensures
    (is_running spot.row.state) (ended (seen t).best (row_seen t.cuts.items spot.row) (with_state (Done c.args.work false) (row_seen t.cuts.items spot.row) ∷ [])) refl (sym c.is_running.ensures ∙ c.if-not-is_running.true)
