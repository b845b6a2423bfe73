use Rattle.std.specs.Prelude.{⊤}
use Rattle.pm_store.specs.Trees.{tree}
use Rattle.pm_unify.specs.Inside.Pairs.{pair_size}
use Rattle.pm_unify.specs.Inside.Steps.{Leaves}
use Rattle.pm_unify.proofs.SupportLemmas.{total}
use Rattle.pm_unify.proofs.pairs.Pairs.next_step.Given as goal

abbrev pub invariant-loop-a : goal.invariant-loop-a
invariant-loop-a l = Leaves l.store (λ trees. ⊤) l.initial.self.pending.items l.initial.self.taken.keys l.self.pending.items l.self.taken.keys

abbrev pub decreases-loop-a : goal.decreases-loop-a
decreases-loop-a l = total (pair_size (tree l.store)) l.self.pending.items
