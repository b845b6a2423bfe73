use Rattle.std.proofs.Common.{subst}
use Rattle.pm_machine.specs.Labels.{IsBuilt}
use Rattle.pm_machine.specs.Value.{MachineValue}
use Rattle.pm_machine.proofs.MachineLemmas.{stands_now}
use Rattle.pm_machine.proofs.machine.Machine.nodes.Goals as goal

pub returns-clause-built : goal.returns-clause-built
returns-clause-built c =
    subst (λ (v : MachineValue). IsBuilt v.problem v.state) c.self.view_is (stands_now _ _ _ _ _ c.self.invariant.1).built
