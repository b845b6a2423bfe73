use Rattle.pm_store.specs.Equations.{free_count}
use Rattle.pm_unify.proofs.UnifyingLemmas.{IsUnifying}
use Rattle.pm_unify.proofs.unification.solve.Given as goal

abbrev pub invariant-loop-pairs : goal.invariant-loop-pairs
invariant-loop-pairs l = IsUnifying l.fn.store l.store l.fn.a l.fn.b l.pairs.pending.items l.pairs.taken.keys

abbrev pub decreases-loop-pairs : goal.decreases-loop-pairs
decreases-loop-pairs l = free_count l.store
