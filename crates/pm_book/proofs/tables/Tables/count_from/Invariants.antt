use Rattle.std.proofs.Common.{◌*◌, ◌^◌, ◌≤◌, take, drop, map}
use Rattle.pm_book.specs.Shown.{row_seen}
use Rattle.pm_book.specs.Inside.Counted.{AreCounted}
use Rattle.pm_book.specs.Inside.Seen.{seen}
use Rattle.pm_book.proofs.tables.Tables.count_from.Given as goal

abbrev pub invariant-loop-k : goal.invariant-loop-k
invariant-loop-k l = record {
  counted : AreCounted l.counts (seen l.self).best (map (row_seen l.self.cuts.items) (take l.k (drop l.first l.self.rows.items)));
  few : l.counts.spent ≤ l.k * 2 ^ 64;
}
