use Rattle.std.specs.Prelude.{◌≡◌, ◌≤◌, length, take}
use Rattle.pm_diseq.proofs.pool.Pool.undo.Given as goal

abbrev pub invariant-entries : goal.invariant-entries
invariant-entries l = (l.mark ≤ length l.self) × (l.self ≡ take (length l.self) l.initial.self)

abbrev pub decreases-entries : goal.decreases-entries
decreases-entries l = length l.self
