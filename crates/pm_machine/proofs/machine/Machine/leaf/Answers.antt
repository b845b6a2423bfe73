use Rattle.std.proofs.Common.{Some, None, sym, subst}
use Rattle.pm_calculus.specs.Skeleton.{selected}
use Rattle.pm_machine.specs.Node.{Views}
use Rattle.pm_machine.specs.Labels.{IsBuilt}
use Rattle.pm_machine.specs.Value.{MachineValue, skeleton}
use Rattle.pm_machine.proofs.MachineLemmas.{stands_now, leaf_views, no_leaf_views}
use Rattle.pm_machine.proofs.machine.Machine.leaf.Goals as goal

pub returns-in_err-node-clause-shown : goal.returns-in_err-node-clause-shown
returns-in_err-node-clause-shown c =
    let standing = stands_now _ _ _ _ _ c.self.invariant.1 in
    subst (λ r. Views (selected (skeleton c.args.self.now)) r) (sym c.from_residual.ensures)
    (subst (λ (v : MachineValue). Views (selected (skeleton v)) None) c.self.view_is
    (no_leaf_views _ _ _ _ standing (sym c.in_err-node.ensures)))

pub returns-in_err-node-clause-built : goal.returns-in_err-node-clause-built
returns-in_err-node-clause-built c =
    subst (λ (v : MachineValue). IsBuilt v.problem v.state) c.self.view_is (stands_now _ _ _ _ _ c.self.invariant.1).built

pub returns-clause-shown : goal.returns-clause-shown
returns-clause-shown c =
    let standing = stands_now _ _ _ _ _ c.self.invariant.1 in
    subst (λ (v : MachineValue). Views (selected (skeleton v)) (Some (record { depth = c.in_ok-node.node.now.depth; positive = c.in_ok-node.node.now.positive; predicate = c.in_ok-node.node.now.predicate }))) c.self.view_is
    (leaf_views _ _ _ _ standing c.in_ok-node.node.now (sym c.in_ok-node.ensures))

pub returns-clause-built : goal.returns-clause-built
returns-clause-built c =
    subst (λ (v : MachineValue). IsBuilt v.problem v.state) c.self.view_is (stands_now _ _ _ _ _ c.self.invariant.1).built
