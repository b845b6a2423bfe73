use Rattle.std.proofs.Common.{◌∙◌, ap, arith, sym, subst, List}
use Rattle.std.specs.Prelude.{All}
use Rattle.std.proofs.lemmas.List.Elements.{All-more}
use Rattle.pm_book.specs.declared.row.BookRow.{BookRow}
use Rattle.pm_book.specs.Rows.{is_queued}
use Rattle.pm_book.proofs.PutRows.{take_whole}
use Rattle.pm_book.proofs.BookLemmas.{no_queued}
use Rattle.pm_book.proofs.Stays.{Rests}
use Rattle.pm_book.proofs.tables.Tables.first_queued.Goals as goal

pub returns-then-self-eq0 : goal.returns-then-self-eq0
returns-then-self-eq0 c = no_queued c.args.self.now c.requires c.if-self-eq0.true

pub loop-place-preserved : goal.loop-place-preserved
loop-place-preserved c =
    let row = c.index.result.now in
    All-more Rests c.args.self.now.rows.items c.loop-place.place row (omega (arith, c.loop-place-test.true, c.len-place-end.ensures, c.args.self.now.rows.ok.0)) c.loop-place.invariant
    (ap (λ (r : BookRow). is_queued r.state) (sym c.index.ensures) ∙ sym c.is_queued.ensures ∙ c.if-is_queued.false)

pub returns : goal.returns
returns c =
    let rows = c.args.self.now.rows.items in
    subst (λ (l : List BookRow). All Rests l) (take_whole c.loop-place.place rows (omega (arith, c.loop-place-test.false, c.len-place-end.ensures, c.args.self.now.rows.ok.0))) c.loop-place.invariant
