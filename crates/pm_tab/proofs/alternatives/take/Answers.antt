use Rattle.std.proofs.Common.{subst}
use Rattle.pm_tab.specs.Inside.Steps.{StartsFirst}
use Rattle.pm_tab.proofs.alternatives.take.Goals as goal

pub start-requires-clause-first : goal.start-requires-clause-first
start-requires-clause-first c = subst (λ s. StartsFirst s c.args.machine.now) c.in-Start.is c.requires.first
