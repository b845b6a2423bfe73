use Rattle.pm_outside.proofs.Writing.{writes_on, keeps_on, prefix_of}
use Rattle.pm_outside.proofs.host_sink.write_whole.Goals as goal

pub loop-rest-preserved : goal.loop-rest-preserved
loop-rest-preserved g c = writes_on _ _ _ _ _ _ c.loop-rest.invariant c.in-Ok.ensures.bytes

pub returns-in-Ok-eq0-clause-prefix : goal.returns-in-Ok-eq0-clause-prefix
returns-in-Ok-eq0-clause-prefix g c =
    prefix_of _ _ _ _ (writes_on _ _ _ _ _ _ c.loop-rest.invariant c.in-Ok-eq0.ensures.bytes)

pub returns-in-Err-clause-prefix : goal.returns-in-Err-clause-prefix
returns-in-Err-clause-prefix g c =
    prefix_of _ _ _ _ (keeps_on _ _ _ _ _ c.loop-rest.invariant c.in-Err.ensures.bytes)
