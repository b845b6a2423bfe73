use Rattle.std.proofs.Common.{◌≡◌, ◌≤◌, length}
use Rattle.pm_examples.proofs.machine.wander.Given as goal

abbrev pub invariant-times : goal.invariant-times
invariant-times l = (l.machine.problem ≡ l.problem) × (length l.taken.items ≤ length l.machine.before)
