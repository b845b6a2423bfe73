use Rattle.std.proofs.Common.{◌≡◌, ◌<◌, ◌∙◌, ◌+◌, [], ◌∷◌, ◌++◌, length, take, drop, map, get_or, sym, ap, subst, arith, length-drop}
use Rattle.pm_book.specs.declared.row.BookRow.{BookRow}
use Rattle.pm_book.specs.declared.counts.Counts.{Counts}
use Rattle.pm_book.specs.Shown.{row_seen}
use Rattle.pm_book.specs.Inside.Counted.{AreCounted, both}
use Rattle.pm_book.specs.Inside.Seen.{seen}
use Rattle.pm_book.proofs.Counted.{both_counted, seen_more}
use Rattle.pm_book.proofs.Located.{get_dropped}
use Rattle.pm_book.proofs.tables.Tables.count_from.Goals as goal

pub loop-k-preserved : goal.loop-k-preserved
loop-k-preserved c =
    let cuts = c.args.self.now.cuts.items in
    let best = (seen c.args.self.now).best in
    let rows = c.args.self.now.rows.items in
    let back = drop c.args.first rows in
    let row = c.index.result.now in
    let k = c.loop-k.k in
    let long = length-drop c.args.first rows in
    let within : k < length back = omega (arith, long, c.loop-k-test.true, c.len.ensures, c.args.self.now.rows.ok.0) in
    let row-is : row ≡ get_or back k row = c.index.ensures ∙ sym (get_dropped rows c.args.first k row) in
    let counted = both_counted c.loop-k.counts c.count_row.result best (map (row_seen cuts) (take k back)) (row_seen cuts row ∷ []) c.loop-k.invariant.counted c.count_row.ensures.counted in
    let rows-are : map (row_seen cuts) (take k back) ++ (row_seen cuts row ∷ []) ≡ map (row_seen cuts) (take (k + 1) back) =
    ap (λ (r : BookRow). map (row_seen cuts) (take k back) ++ (row_seen cuts r ∷ [])) row-is ∙ sym (seen_more cuts back k row within) in
    let spent = ap (λ (n : Counts). n.spent) c.with-counts.ensures in
    record {
      counted = subst (λ (n : Counts). AreCounted n best (map (row_seen cuts) (take (k + 1) back))) (sym c.with-counts.ensures) (subst (AreCounted (both c.loop-k.counts c.count_row.result) best) rows-are counted);
      few = omega (arith, spent, c.loop-k.invariant.few, c.count_row.ensures.few.spent);
    }
