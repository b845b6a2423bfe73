use Rattle.std.proofs.Common.{◌∙◌, ℕ, List, ap, sym, refl, true, [], ◌∷◌, length}
use Rattle.std.specs.Prelude.{Some, ◌==◌}
use Rattle.pm_book.specs.declared.row.RowState.TheVariants.{Done}
use Rattle.pm_book.specs.declared.event.Event.TheVariants.{Found}
use Rattle.pm_book.specs.Steps.{ended, with_state, may_find}
use Rattle.pm_book.specs.Shown.{row_seen}
use Rattle.pm_book.specs.Inside.Seen.{seen}
use Rattle.pm_book.proofs.Moves.{spot_places}
use Rattle.pm_book.proofs.BookLemmas.{unfound, refused_listed, allowed_listed, any_err}
use Rattle.pm_book.proofs.history.apply_found.Goals as goal

pub returns-in_default-clause-applied : goal.returns-in_default-clause-applied
returns-in_default-clause-applied c = unfound c.args.tables.now (λ row. row.number == c.args.row) (Found c.args.row (length c.args.tables.now.cuts.items) c.args.work) (Some c.args.path.now) (λ r. refl) c.in_default.ensures

pub may_find-requires : goal.may_find-requires
may_find-requires c = spot_places c.args.tables.now c.in-Some.spot c.requires.kept c.in-Some.ensures.there

pub returns-then-not-may_find-clause-applied : goal.returns-then-not-may_find-clause-applied
returns-then-not-may_find-clause-applied c =
    let t = c.args.tables.now in
    let row = row_seen t.cuts.items c.in-Some.spot.row in
    let path = c.args.path.now in
    refused_listed t c.in-Some.spot c.args.row (Found c.args.row (length c.args.tables.now.cuts.items) c.args.work) (Some path) (λ r. refl) c.in-Some.ensures (may_find path row) (ended (seen t).best row (with_state (Done c.args.work true) row ∷ [])) refl
    (sym (c.may_find.ensures ∙ ap (λ (l : List ℕ). may_find l row) c.as_slice.ensures) ∙ c.if-not-may_find.true)

pub returns-in_err-copy-clause-memory : goal.returns-in_err-copy-clause-memory
returns-in_err-copy-clause-memory c =
    let t = c.args.tables.now in
    let row = row_seen t.cuts.items c.in-Some.spot.row in
    let path = c.args.path.now in
    any_err c.from_residual.result (allowed_listed t c.in-Some.spot c.args.row (Found c.args.row (length c.args.tables.now.cuts.items) c.args.work) (Some path) (λ r. refl) c.in-Some.ensures (may_find path row) (ended (seen t).best row (with_state (Done c.args.work true) row ∷ [])) refl
    (sym (c.may_find.ensures ∙ ap (λ (l : List ℕ). may_find l row) c.as_slice.ensures) ∙ c.if-not-may_find.false))
