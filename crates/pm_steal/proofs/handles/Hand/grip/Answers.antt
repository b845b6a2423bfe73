use Rattle.pm_steal.proofs.StepLemmas.{new_thread_keeps}
use Rattle.pm_steal.proofs.handles.Hand.grip.Goals as goal

pub another-pass-requires : goal.another-pass-requires
another-pass-requires c = new_thread_keeps _ _
