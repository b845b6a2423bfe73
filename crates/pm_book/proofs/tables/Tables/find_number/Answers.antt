use Rattle.std.proofs.Common.{◌<◌, ◌∙◌, [], ap, sym, arith, refl, length}
use Rattle.std.specs.Prelude.{◌==◌}
use Rattle.std.proofs.lemmas.Bool.Decides.{nat_tests}
use Rattle.std.proofs.lemmas.Option.{slice_get_read, get_or_from_slice_get}
use Rattle.pm_choice.specs.declared.Bound.TheVariants.{At, End}
use Rattle.pm_book.specs.declared.row.BookRow.{BookRow}
use Rattle.pm_book.proofs.Located.{none_earlier, none_at_all, all_before}
use Rattle.pm_book.proofs.tables.Tables.find_number.Goals as goal

pub returns-then-place-len : goal.returns-then-place-len
returns-then-place-len c =
    let t = c.args.self.now in
    let there = slice_get_read t.lowers.items (length t.lowers.items) c.args.number c.index.result.now refl (omega (arith, c.if-number-len.false, c.len.ensures, t.lowers.ok.0)) c.index.ensures in
    none_at_all (At []) End t.cuts.items t.lowers.items t.rows.items c.args.number c.index.result.now c.lower.result.now c.rows_below-place.result c.requires.always.tiled c.requires.kept.lowers there c.lower.ensures c.rows_below-place.ensures.parted
    (λ d within same. absurd (omega (arith, within, c.if-place-len.true, c.len-2.ensures, t.rows.ok.0)))

pub returns-then-row-number : goal.returns-then-row-number
returns-then-row-number c =
    let t = c.args.self.now in
    let there = slice_get_read t.lowers.items (length t.lowers.items) c.args.number c.index.result.now refl (omega (arith, c.if-number-len.false, c.len.ensures, t.lowers.ok.0)) c.index.ensures in
    none_at_all (At []) End t.cuts.items t.lowers.items t.rows.items c.args.number c.index.result.now c.lower.result.now c.rows_below-place.result c.requires.always.tiled c.requires.kept.lowers there c.lower.ensures c.rows_below-place.ensures.parted
    (λ d within same. absurd (
    let row = c.index-row.result.now in
    let here = slice_get_read t.rows.items (length t.rows.items) c.rows_below-place.result row refl within c.index-row.ensures in
    c.if-row-number.true (ap (λ (r : BookRow). r.number) (sym (get_or_from_slice_get t.rows.items c.rows_below-place.result row d here)) ∙ same)
    ))

pub returns : goal.returns
returns c =
    let t = c.args.self.now in
    let there = slice_get_read t.lowers.items (length t.lowers.items) c.args.number c.index.result.now refl (omega (arith, c.if-number-len.false, c.len.ensures, t.lowers.ok.0)) c.index.ensures in
    let within : c.rows_below-place.result < length t.rows.items = omega (arith, c.rows_below-place.ensures.bound, c.if-place-len.false, c.len-2.ensures, t.rows.ok.0) in
    record {
      there = slice_get_read t.rows.items (length t.rows.items) c.rows_below-place.result c.index-row.result.now refl within c.index-row.ensures;
      passes = (let same = c.if-row-number.false in grind (arith, nat_tests));
      first = all_before t.rows.items c.rows_below-place.result (λ row. row.number == c.args.number)
          (none_earlier t.cuts.items t.lowers.items t.rows.items c.args.number c.index.result.now c.lower.result.now c.rows_below-place.result c.requires.kept.lowers there c.lower.ensures c.rows_below-place.ensures.parted);
    }
