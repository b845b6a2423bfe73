use Rattle.std.proofs.Common.{◌-◌, length, map}
use Rattle.pm_check.proofs.SiblingLemmas.{GoesUpTo}
use Rattle.pm_check.proofs.nodes.next_place.Given as goal

abbrev pub invariant-below : goal.invariant-below
invariant-below l = GoesUpTo (map (λ node. node.depth) l.nodes) l.place l.end

abbrev pub decreases-below : goal.decreases-below
decreases-below l = length l.nodes - l.end
