use Rattle.std.proofs.Common.{◌≡◌, ◌≤◌, ◌+◌, drop}
use Rattle.pm_logic.specs.View.{literal_of}
use Rattle.pm_lift.specs.Inside.Tree.{reduction_choice}
use Rattle.pm_lift.specs.Inside.Walk.{literals_of}
use Rattle.pm_lift.specs.Inside.View.{branch_of}
use Rattle.pm_lift.proofs.branch.reduction.Given as goal

abbrev pub invariant-ancestors : goal.invariant-ancestors
invariant-ancestors l =
    (l.place ≤ l.ancestor-index)
    × (reduction_choice (literals_of (branch_of l.terms l.branch)) (literal_of l.terms l.literal)
    ≡ l.place + reduction_choice (literals_of (branch_of l.terms (drop l.ancestor-index l.branch))) (literal_of l.terms l.literal))
