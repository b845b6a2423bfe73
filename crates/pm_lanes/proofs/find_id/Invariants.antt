use Rattle.std.proofs.Common.{◌-◌, ◌≤◌, eqb, length, get_or}
use Rattle.std.specs.Slice.Scan.{HoldsNowhere}
use Rattle.pm_lanes.proofs.find_id.Given as goal

abbrev pub invariant-vectors : goal.invariant-vectors
invariant-vectors l = (l.at ≤ length l.ids) × HoldsNowhere (λ place. eqb (get_or l.ids place 0) l.id) 0 l.at

abbrev pub decreases-vectors : goal.decreases-vectors
decreases-vectors l = length l.ids - l.at

abbrev pub invariant-loop-place : goal.invariant-loop-place
invariant-loop-place l = HoldsNowhere (λ place. eqb (get_or l.ids place 0) l.id) 0 l.place
