use Rattle.std.proofs.Common.{◌≡◌}
use Rattle.pm_pool.proofs.seat.Post.steal.Given as goal

abbrev pub invariant-victims : goal.invariant-victims
invariant-victims l = l.self.workers ≡ l.victim-end
