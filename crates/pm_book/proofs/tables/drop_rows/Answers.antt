use Rattle.std.proofs.Common.{arith}
use Rattle.pm_book.specs.Inside.Seen.{dropped}
use Rattle.pm_book.proofs.PutRows.{written_more}
use Rattle.pm_book.proofs.tables.drop_rows.Goals as goal

pub loop-k-preserved : goal.loop-k-preserved
loop-k-preserved c = record {
  items = written_more dropped c.args.rows.now.items c.loop-k.rows.items c.args.first c.loop-k.k c.index.result.now c.dropped.result
      (omega (arith, c.loop-k-test.true, c.len.ensures, c.args.rows.now.ok.0)) c.loop-k.invariant.items c.index.ensures c.dropped.ensures;
  length_is = c.loop-k.invariant.length_is;
  capacity_is = c.loop-k.invariant.capacity_is;
}
