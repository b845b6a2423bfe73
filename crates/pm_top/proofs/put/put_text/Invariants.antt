use Rattle.std.proofs.Common.{length}
use Rattle.pm_top.proofs.Puts.{HasPut}
use Rattle.pm_top.proofs.put.put_text.Given as goal

abbrev pub invariant-pieces : goal.invariant-pieces
invariant-pieces g l = HasPut (g.S.Sink.written l.initial.sink) (g.S.Sink.written l.sink) (g.S.Sink.faults l.initial.sink) (g.S.Sink.faults l.sink) l.text l.rest

abbrev pub decreases-pieces : goal.decreases-pieces
decreases-pieces g l = length l.rest
