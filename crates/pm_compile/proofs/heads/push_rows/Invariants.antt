use Rattle.std.proofs.Common.{◌≡◌, ◌++◌, reverse}
use Rattle.pm_compile.proofs.heads.push_rows.Given as goal

-- with the rest of the rows, all have become pending
abbrev pub invariant-reversed : goal.invariant-reversed
invariant-reversed l = l.pending.items ++ reverse l.row-iterator.iter.rest.now ≡ l.fn.pending.items ++ reverse l.rows
