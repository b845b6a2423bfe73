use Rattle.std.proofs.Common.{rules}
use Rattle.pm_lanes.proofs.LaneLemmas.{nowhere_more}
use Rattle.pm_lanes.proofs.next_compatible.Goals as goal

pub loop-place-preserved : goal.loop-place-preserved
loop-place-preserved c = nowhere_more _ _ _ c.loop-place.invariant (search rules)
