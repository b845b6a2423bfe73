use Rattle.std.proofs.Common.{◌≡◌, length}
use Rattle.pm_check.proofs.FamilyLemmas.{IsTurn}
use Rattle.pm_check.proofs.family.matches.Given as goal

abbrev pub invariant-literals : goal.invariant-literals
invariant-literals l =
    (l.images.count ≡ length l.problem.terms)
    × IsTurn l.problem l.nodes.terms.now l.nodes.list.now l.fn.first l.depth l.literal-items l.images.matches l.literal-index l.place
