use Rattle.pm_steal.proofs.StepLemmas.{push_keeps}
use Rattle.pm_steal.proofs.handles.Hand.push.Goals as goal

pub push_as-requires-clause-pushes : goal.push_as-requires-clause-pushes
push_as-requires-clause-pushes c = push_keeps _ _ _
