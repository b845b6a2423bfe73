use Rattle.std.proofs.Common.{List, length}
use Rattle.std.specs.List.{All}
use Rattle.pm_logic.specs.Term.{Term, tree_at}
use Rattle.pm_cert.specs.Terms.{subterms}
use Rattle.pm_cert.specs.Inside.Listing.{AreFinished, IsWithin, StepsOn, left_of_all, weight}
use Rattle.pm_cert.proofs.list.finish.Given as goal

-- what has been finished is the first of what was to be, and the open terms have the rest
abbrev pub invariant-terms : goal.invariant-terms
invariant-terms l =
    ((finished : List Term) → AreFinished l.terms finished l.fn.list.keys → StepsOn l.terms finished l.list.keys (subterms (tree_at l.terms l.fn.row)) (left_of_all l.terms l.opened.items))
    × All (IsWithin (length l.terms)) l.opened.items

abbrev pub decreases-terms : goal.decreases-terms
decreases-terms l = weight l.terms l.opened.items
