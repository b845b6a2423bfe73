use Rattle.pm_unify.proofs.SupportLemmas.{total}
use Rattle.pm_unify.proofs.OccurrenceLemmas.{cell_size, Searches}
use Rattle.pm_unify.proofs.occurrence.occurs_below.Given as goal

abbrev pub invariant-loop-cell : goal.invariant-loop-cell
invariant-loop-cell l = Searches l.store l.v l.fn.t l.pending.items l.visited.keys

abbrev pub decreases-loop-cell : goal.decreases-loop-cell
decreases-loop-cell l = total (cell_size l.store) l.pending.items
