use Rattle.std.proofs.Common.{◌≡◌, ◌≤◌, ◌<◌, ℕ, length, map}
use Rattle.std.specs.Prelude.{slice_index}
use Rattle.pm_check.specs.Inside.Siblings.{IsNextPlace}
use Rattle.pm_check.proofs.nodes.next_places.Given as goal

abbrev pub invariant-places : goal.invariant-places
invariant-places l =
    (l.place ≤ length l.nodes)
    × (length l.next.items ≡ length l.nodes)
    × ((k : ℕ) → l.place ≤ k → k < length l.nodes → IsNextPlace (map (λ node. node.depth) l.nodes) k (slice_index l.next.items k))

abbrev pub decreases-places : goal.decreases-places
decreases-places l = l.place
