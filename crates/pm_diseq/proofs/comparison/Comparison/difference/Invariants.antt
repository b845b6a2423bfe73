use Rattle.pm_store.specs.Trees.{tree}
use Rattle.pm_diseq.specs.Notes.{as_pair}
use Rattle.pm_diseq.specs.Inside.Comparing.{pair_size, Compares}
use Rattle.pm_diseq.proofs.SupportLemmas.{total}
use Rattle.pm_diseq.proofs.comparison.Comparison.difference.Given as goal

abbrev pub invariant-places : goal.invariant-places
invariant-places l = Compares l.store (as_pair l.left l.right) l.self.pending.items l.self.taken.keys

abbrev pub decreases-places : goal.decreases-places
decreases-places l = total (pair_size (tree l.store)) l.self.pending.items
