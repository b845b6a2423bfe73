use Rattle.std.proofs.Common.{◌≡◌, None, replicate, reverse}
use Rattle.pm_run.proofs.running.Registers.begin.Given as goal

abbrev pub invariant-locals : goal.invariant-locals
invariant-locals l = record {
  locals : l.self.locals.items ≡ replicate l.counter None;
  stack : reverse l.self.stack.items ≡ l.cells;
}
