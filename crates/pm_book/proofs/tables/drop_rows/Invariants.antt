use Rattle.std.proofs.Common.{◌≡◌, ◌++◌, map, take, drop, vec_len, vec_capacity}
use Rattle.pm_book.specs.Inside.Seen.{dropped}
use Rattle.pm_book.proofs.tables.drop_rows.Given as goal

abbrev pub invariant-loop-k : goal.invariant-loop-k
invariant-loop-k l = record {
  items : l.rows.items ≡ take l.first l.initial.rows.items ++ (map dropped (take l.k (drop l.first l.initial.rows.items)) ++ drop l.k (drop l.first l.initial.rows.items));
  length_is : vec_len l.rows ≡ vec_len l.initial.rows;
  capacity_is : vec_capacity l.rows ≡ vec_capacity l.initial.rows;
}
