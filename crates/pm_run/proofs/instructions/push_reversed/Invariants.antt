use Rattle.std.proofs.Common.{◌≡◌, ◌++◌, reverse}
use Rattle.pm_run.proofs.instructions.push_reversed.Given as goal

-- with the rest of the cells, all are pushed
abbrev pub invariant-cells : goal.invariant-cells
invariant-cells l = l.stack.items ++ reverse l.cell-iterator.iter.rest.now ≡ l.fn.stack.items ++ reverse l.cells
