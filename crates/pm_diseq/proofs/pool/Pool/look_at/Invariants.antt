use Rattle.pm_diseq.specs.Inside.Waiting.{Walks}
use Rattle.pm_diseq.proofs.WalkLemmas.{places_left}
use Rattle.pm_diseq.proofs.pool.Pool.look_at.Given as goal

abbrev pub invariant-entries : goal.invariant-entries
invariant-entries l = Walks l.store l.initial.self l.self l.fn.v l.next

abbrev pub decreases-entries : goal.decreases-entries
decreases-entries l = places_left l.next
