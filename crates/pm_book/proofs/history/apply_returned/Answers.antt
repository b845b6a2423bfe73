use Rattle.std.proofs.Common.{◌∙◌, ℕ, List, ap, sym, refl, length}
use Rattle.std.specs.Prelude.{Some, ◌==◌}
use Rattle.pm_book.specs.declared.event.Event.TheVariants.{Returned}
use Rattle.pm_book.specs.Steps.{ended, returned, may_return}
use Rattle.pm_book.specs.Shown.{row_seen}
use Rattle.pm_book.specs.Inside.Seen.{seen}
use Rattle.pm_book.proofs.Moves.{spot_places}
use Rattle.pm_book.proofs.BookLemmas.{unfound, refused_listed, allowed_listed, any_err}
use Rattle.pm_book.proofs.history.apply_returned.Goals as goal

pub returns-in_default-clause-applied : goal.returns-in_default-clause-applied
returns-in_default-clause-applied c = unfound c.args.tables.now (λ row. row.number == c.args.row) (Returned c.args.row (length c.args.tables.now.cuts.items) c.args.work) (Some c.args.cut.now) (λ r. refl) c.in_default.ensures

pub may_return-requires : goal.may_return-requires
may_return-requires c = spot_places c.args.tables.now c.in-Some.spot c.requires.kept c.in-Some.ensures.there

pub returns-then-not-may_return-clause-applied : goal.returns-then-not-may_return-clause-applied
returns-then-not-may_return-clause-applied c =
    let t = c.args.tables.now in
    let row = row_seen t.cuts.items c.in-Some.spot.row in
    let cut = c.args.cut.now in
    refused_listed t c.in-Some.spot c.args.row (Returned c.args.row (length c.args.tables.now.cuts.items) c.args.work) (Some cut) (λ r. refl) c.in-Some.ensures (may_return cut c.args.work row) (ended (seen t).best row (returned cut (length (seen t).rows) c.args.work row)) refl
    (sym (c.may_return.ensures ∙ ap (λ (l : List ℕ). may_return l c.args.work row) c.as_slice.ensures) ∙ c.if-not-may_return.true)

pub returns-in_err-copy-clause-memory : goal.returns-in_err-copy-clause-memory
returns-in_err-copy-clause-memory c =
    let t = c.args.tables.now in
    let row = row_seen t.cuts.items c.in-Some.spot.row in
    let cut = c.args.cut.now in
    any_err c.from_residual.result (allowed_listed t c.in-Some.spot c.args.row (Returned c.args.row (length c.args.tables.now.cuts.items) c.args.work) (Some cut) (λ r. refl) c.in-Some.ensures (may_return cut c.args.work row) (ended (seen t).best row (returned cut (length (seen t).rows) c.args.work row)) refl
    (sym (c.may_return.ensures ∙ ap (λ (l : List ℕ). may_return l c.args.work row) c.as_slice.ensures) ∙ c.if-not-may_return.false))
