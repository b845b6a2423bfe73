use Rattle.std.proofs.Common.{◌≡◌, suc, ◌+◌, ◌-◌, length, sym, ◌∙◌, ap, ap₂, set, arith}
use Rattle.std.proofs.lemmas.List.{length-map}
use Rattle.pm_machine.specs.Node.{node_of}
use Rattle.pm_machine.proofs.TreeLemmas.{reopens, reads_depth}
use Rattle.pm_machine.proofs.tree.Tree.reopen.Goals as goal

pub returns-clause-nodes : goal.returns-clause-nodes
returns-clause-nodes c =
    let nodes = c.args.self.now.nodes in
    let shown = ap (λ t. t.nodes) c.self.view_is in
    let same : length c.self.inside.nodes.items ≡ length nodes = sym (length-map c.self.inside.nodes.items node_of) ∙ ap length shown in
    let long : c.len.result ≡ length c.self.inside.nodes.items = c.len.ensures ∙ c.self.inside.nodes.ok.0 in
    let place : c.args.leaf + 1 + (c.len.result - c.args.count) ≡ suc c.args.leaf + (length nodes - c.args.count) = omega (arith, same, long) in
    reopens c.self.inside.nodes.items _ c.args.leaf c.args.count (c.args.leaf + 1) (c.args.leaf + 1 + (c.len.result - c.args.count)) c.index_mut-node.result.now nodes c.requires.node
    shown c.requires.stands (omega arith) place
    (c.drop-drain.ensures.items ∙ c.drain.ensures.kept) c.index_mut-node.ensures.value

pub returns-clause-branch : goal.returns-clause-branch
returns-clause-branch c =
    let depth = reads_depth c.self.inside.nodes.items _ c.args.leaf (c.args.leaf + 1) (c.args.leaf + 1 + (c.len.result - c.args.count)) c.index_mut-node.result.now c.args.self.now.nodes c.requires.node
    (ap (λ t. t.nodes) c.self.view_is) c.requires.stands (omega arith) (c.drop-drain.ensures.items ∙ c.drain.ensures.kept) c.index_mut-node.ensures.value in
    ap₂ (λ branch level. set branch (level - 1) c.args.replaced) (ap (λ t. t.branch) c.self.view_is) depth
