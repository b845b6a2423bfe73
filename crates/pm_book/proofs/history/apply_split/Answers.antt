use Rattle.std.proofs.Common.{◌∙◌, ℕ, List, ap, sym, refl, [], ◌∷◌, length}
use Rattle.std.specs.Prelude.{Some, ◌==◌}
use Rattle.pm_book.specs.declared.event.Event.TheVariants.{Split}
use Rattle.pm_book.specs.Steps.{part_below, part_from, drop_above, may_split}
use Rattle.pm_book.specs.Shown.{row_seen}
use Rattle.pm_book.specs.Inside.Seen.{seen}
use Rattle.pm_book.proofs.Moves.{spot_places}
use Rattle.pm_book.proofs.BookLemmas.{unfound, refused_listed, allowed_listed, any_err}
use Rattle.pm_book.proofs.history.apply_split.Goals as goal

pub returns-in_default-clause-applied : goal.returns-in_default-clause-applied
returns-in_default-clause-applied c = unfound c.args.tables.now (λ row. row.number == c.args.row) (Split c.args.row (length c.args.tables.now.cuts.items)) (Some c.args.cut.now) (λ r. refl) c.in_default.ensures

pub may_split-requires : goal.may_split-requires
may_split-requires c = spot_places c.args.tables.now c.in-Some.spot c.requires.kept c.in-Some.ensures.there

pub returns-then-not-may_split-clause-applied : goal.returns-then-not-may_split-clause-applied
returns-then-not-may_split-clause-applied c =
    let t = c.args.tables.now in
    let row = row_seen t.cuts.items c.in-Some.spot.row in
    let cut = c.args.cut.now in
    refused_listed t c.in-Some.spot c.args.row (Split c.args.row (length c.args.tables.now.cuts.items)) (Some cut) (λ r. refl) c.in-Some.ensures (may_split cut row) (part_below cut row.state row ∷ drop_above (seen t).best (part_from cut (length (seen t).rows) row) ∷ []) refl
    (sym (c.may_split.ensures ∙ ap (λ (l : List ℕ). may_split l row) c.as_slice.ensures) ∙ c.if-not-may_split.true)

pub returns-in_err-make_room-clause-memory : goal.returns-in_err-make_room-clause-memory
returns-in_err-make_room-clause-memory c =
    let t = c.args.tables.now in
    let row = row_seen t.cuts.items c.in-Some.spot.row in
    let cut = c.args.cut.now in
    any_err c.from_residual.result (allowed_listed t c.in-Some.spot c.args.row (Split c.args.row (length c.args.tables.now.cuts.items)) (Some cut) (λ r. refl) c.in-Some.ensures (may_split cut row) (part_below cut row.state row ∷ drop_above (seen t).best (part_from cut (length (seen t).rows) row) ∷ []) refl
    (sym (c.may_split.ensures ∙ ap (λ (l : List ℕ). may_split l row) c.as_slice.ensures) ∙ c.if-not-may_split.false))

pub returns-in_err-copy-clause-memory : goal.returns-in_err-copy-clause-memory
returns-in_err-copy-clause-memory c =
    let t = c.args.tables.now in
    let row = row_seen t.cuts.items c.in-Some.spot.row in
    let cut = c.args.cut.now in
    any_err c.from_residual-in_err-copy.result (allowed_listed t c.in-Some.spot c.args.row (Split c.args.row (length c.args.tables.now.cuts.items)) (Some cut) (λ r. refl) c.in-Some.ensures (may_split cut row) (part_below cut row.state row ∷ drop_above (seen t).best (part_from cut (length (seen t).rows) row) ∷ []) refl
    (sym (c.may_split.ensures ∙ ap (λ (l : List ℕ). may_split l row) c.as_slice.ensures) ∙ c.if-not-may_split.false))
