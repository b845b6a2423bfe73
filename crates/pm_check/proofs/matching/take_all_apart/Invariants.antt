use Rattle.std.proofs.Common.{◌≡◌, ◌-◌}
use Rattle.pm_check.proofs.MatchingLemmas.{TakesUpTo}
use Rattle.pm_check.proofs.matching.take_all_apart.Given as goal

abbrev pub invariant-matches : goal.invariant-matches
invariant-matches l =
    TakesUpTo l.source l.target l.initial.images.matches l.images.matches l.next
    × (l.images.count ≡ l.initial.images.count)

abbrev pub decreases-matches : goal.decreases-matches
decreases-matches l = l.images.count - l.next
