use Rattle.std.proofs.Common.{◌≡◌, None, sym, subst}
use Rattle.pm_calculus.specs.Skeleton.{selected}
use Rattle.pm_machine.specs.Value.{MachineValue, skeleton}
use Rattle.pm_machine.specs.State.{AreAncestors}
use Rattle.pm_machine.specs.Node.{node_of}
use Rattle.pm_machine.proofs.PlaceLemmas.{is_within}
use Rattle.pm_machine.proofs.MachineLemmas.{stands_now, leaf_there, above_count, are_ancestors}
use Rattle.pm_machine.proofs.machine.Machine.ancestors.Goals as goal

pub leaf-requires : goal.leaf-requires
leaf-requires c =
    let there = leaf_there _ _ _ _ (stands_now _ _ _ _ _ c.self.invariant.1) (subst (λ (v : MachineValue). selected (skeleton v) ≡ None → ⊥) (sym c.self.view_is) c.requires) in
    is_within c.self.inside.tree.nodes c.self.inside.tree.leaf there.node there.stands

pub above-requires : goal.above-requires
above-requires c = above_count _ _ _ _ (stands_now _ _ _ _ _ c.self.invariant.1) (node_of c.leaf.result.now) c.leaf.ensures

pub returns : goal.returns
returns c =
    subst (λ (v : MachineValue). AreAncestors v.state.nodes c.above.result.now) c.self.view_is
    (subst (AreAncestors c.self.inside.tree.nodes) (sym c.above.ensures) (are_ancestors _ _ _ _ (stands_now _ _ _ _ _ c.self.invariant.1) (node_of c.leaf.result.now) c.leaf.ensures))

pub overflow_sub-depth : goal.overflow_sub-depth
overflow_sub-depth c =
    ((stands_now _ _ _ _ _ c.self.invariant.1).leaf.below c.self.inside.tree.leaf (node_of c.leaf.result.now) c.leaf.ensures).0
