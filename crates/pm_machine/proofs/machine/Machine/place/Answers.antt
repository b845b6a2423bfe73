use Rattle.std.proofs.Common.{sym, subst}
use Rattle.pm_machine.specs.Value.{MachineValue}
use Rattle.pm_machine.specs.State.{IsPlaceOfLeaf}
use Rattle.pm_machine.proofs.MachineLemmas.{stands_now, is_place}
use Rattle.pm_machine.proofs.machine.Machine.place.Goals as goal

pub returns : goal.returns
returns c =
    subst (λ (v : MachineValue). IsPlaceOfLeaf v.state.nodes c.place.result) c.self.view_is
    (subst (IsPlaceOfLeaf c.self.inside.tree.nodes) (sym c.place.ensures) (is_place _ _ _ _ (stands_now _ _ _ _ _ c.self.invariant.1)))
