use Rattle.std.proofs.Common.{take}
use Rattle.pm_diseq.specs.Inside.Waiting.{Rewaits}
use Rattle.pm_diseq.proofs.WalkLemmas.{LooksAt}
use Rattle.pm_diseq.proofs.pool.Pool.look_again.Given as goal

abbrev pub invariant-variables : goal.invariant-variables
invariant-variables l = Rewaits l.initial.self l.self × LooksAt l.store l.initial.self (take l.v-index l.bound) l.self
