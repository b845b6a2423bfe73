use Rattle.std.proofs.Common.{◌∙◌, ℕ, ap, sym, refl, [], ◌∷◌}
use Rattle.std.specs.Prelude.{None, ◌==◌, ◌&&◌, nat_le}
use Rattle.pm_book.specs.declared.row.RowState.TheVariants.{Running}
use Rattle.pm_book.specs.declared.event.Event.TheVariants.{Took}
use Rattle.pm_book.specs.Rows.{is_queued, spent}
use Rattle.pm_book.specs.Steps.{with_state}
use Rattle.pm_book.specs.Shown.{row_seen}
use Rattle.pm_book.specs.Inside.Seen.{seen}
use Rattle.pm_book.proofs.BookLemmas.{unfound, refused, allowed, any_err}
use Rattle.pm_book.proofs.history.apply_took.Goals as goal

pub returns-in_default-clause-applied : goal.returns-in_default-clause-applied
returns-in_default-clause-applied c =
    let t = c.args.tables.now in
    unfound t (λ row. is_queued row.state) (Took c.args.worker c.args.row) None (λ r. refl)
    c.in_default.ensures

pub returns-then-not-may_take-clause-applied : goal.returns-then-not-may_take-clause-applied
returns-then-not-may_take-clause-applied c =
    let t = c.args.tables.now in
    let spot = c.in-Some.spot in
    refused t spot (λ row. is_queued row.state) (Took c.args.worker c.args.row) None (λ r. refl)
    c.in-Some.ensures
    (spot.row.number == c.args.row && nat_le (spent (seen t)) t.budget) (with_state (Running c.args.worker) (row_seen t.cuts.items spot.row) ∷ []) refl
    (sym (c.may_take.ensures ∙ ap (λ (n : ℕ). spot.row.number == c.args.row && nat_le n t.budget) c.requires.counted.spent) ∙ c.if-not-may_take.true)

pub returns-in_err-make_room-clause-memory : goal.returns-in_err-make_room-clause-memory
returns-in_err-make_room-clause-memory c =
    let t = c.args.tables.now in
    let spot = c.in-Some.spot in
    any_err c.from_residual.result (allowed t spot (λ row. is_queued row.state) (Took c.args.worker c.args.row) None (λ r. refl)
    c.in-Some.ensures
    (spot.row.number == c.args.row && nat_le (spent (seen t)) t.budget) (with_state (Running c.args.worker) (row_seen t.cuts.items spot.row) ∷ []) refl
    (sym (c.may_take.ensures ∙ ap (λ (n : ℕ). spot.row.number == c.args.row && nat_le n t.budget) c.requires.counted.spent) ∙ c.if-not-may_take.false))
