use Rattle.std.proofs.Common.{◌≡◌}
use Rattle.pm_examples.proofs.machine.takes.Given as goal

abbrev pub invariant-steps : goal.invariant-steps
invariant-steps l = l.machine.problem ≡ l.problem
