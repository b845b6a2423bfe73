use Rattle.std.proofs.Common.{◌≡◌, ◌≤◌, ◌+◌, map, drop}
use Rattle.pm_logic.specs.View.{literal_of, entry_of}
use Rattle.pm_lift.specs.Inside.Walk.{closing_at}
use Rattle.pm_lift.proofs.branch.closing_place.Given as goal

abbrev pub invariant-later : goal.invariant-later
invariant-later l =
    (l.child ≤ l.node-index)
    × (closing_at (literal_of l.terms l.parent) l.depth (map (entry_of l.terms) l.later)
    ≡ l.child + closing_at (literal_of l.terms l.parent) l.depth (map (entry_of l.terms) (drop l.node-index l.later)))
