use Rattle.std.proofs.Common.{◌≡◌, ℕ, ◌-◌, ◌<◌, ◌≤◌, length, map}
use Rattle.std.specs.Prelude.{◌⊎◌}
use Rattle.pm_machine.specs.Node.{node_of}
use Rattle.pm_tab.specs.Inside.Passing.{IsOppositeAt}
use Rattle.pm_tab.proofs.alternatives.hopeful_reduction.Given as goal

abbrev pub invariant-ancestors : goal.invariant-ancestors
invariant-ancestors l =
    (l.from ≤ l.k) × ((l.k ≤ length l.ancestors) ⊎ (l.k ≡ l.from))
    × ((k : ℕ) → l.from ≤ k → k < l.k → k < length l.ancestors → ¬ IsOppositeAt (map node_of l.nodes) l.ancestors (node_of l.leaf) k)

abbrev pub decreases-ancestors : goal.decreases-ancestors
decreases-ancestors l = length l.ancestors - l.k
