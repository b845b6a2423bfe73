use Rattle.std.proofs.Common.{arith}
use Rattle.pm_steal.proofs.StepLemmas.{steal_keeps, held_few}
use Rattle.pm_steal.proofs.handles.Grip.steal.Goals as goal

pub steal_as-requires-clause-takes : goal.steal_as-requires-clause-takes
steal_as-requires-clause-takes c = steal_keeps _ _

pub steal_as-requires-clause-empty : goal.steal_as-requires-clause-empty
steal_as-requires-clause-empty c = held_few _ _ _ (omega arith)
