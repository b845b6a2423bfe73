use Rattle.std.proofs.Common.{ℕ, ◌<◌, length}
use Rattle.pm_examples.proofs.machine.is_nested.Given as goal

abbrev pub invariant-times : goal.invariant-times
invariant-times l = l.want < length l.terms
