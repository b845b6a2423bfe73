use Rattle.std.proofs.Common.{◌-◌, ◌≤◌, length}
use Rattle.std.specs.Slice.Scan.{HoldsNowhere}
use Rattle.pm_lanes.specs.Lanes.{is_compatible}
use Rattle.pm_lanes.proofs.next_compatible.Given as goal

abbrev pub invariant-vectors : goal.invariant-vectors
invariant-vectors l =
    (l.fn.from ≤ l.at) × (l.at ≤ length l.c0) × HoldsNowhere (is_compatible l.goal l.c0 l.c1 l.c2 l.c3) l.fn.from l.at

abbrev pub decreases-vectors : goal.decreases-vectors
decreases-vectors l = length l.c0 - l.at

abbrev pub invariant-loop-place : goal.invariant-loop-place
invariant-loop-place l = HoldsNowhere (is_compatible l.goal l.c0 l.c1 l.c2 l.c3) l.fn.from l.place
