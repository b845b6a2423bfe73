use Rattle.pm_steal.proofs.StepLemmas.{pop_keeps, held_none}
use Rattle.pm_steal.proofs.handles.Hand.pop.Goals as goal

pub pop_as-requires-clause-lifo : goal.pop_as-requires-clause-lifo
pop_as-requires-clause-lifo c _ = pop_keeps _ _

pub pop_as-requires-clause-empty : goal.pop_as-requires-clause-empty
pop_as-requires-clause-empty c = held_none _ _
