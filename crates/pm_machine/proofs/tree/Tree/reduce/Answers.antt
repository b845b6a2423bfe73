use Rattle.std.proofs.Common.{◌≡◌, ◌+◌, ◌-◌, suc, Some, slice_get, slice_index_or, length, reverse, refl, sym, ◌∙◌, ap, ap₂, arith, subst}
use Rattle.std.proofs.lemmas.List.{length-map}
use Rattle.pm_machine.specs.declared.tree.Step.TheVariants.{Reduce}
use Rattle.pm_machine.specs.Node.{node_of}
use Rattle.pm_machine.specs.Inside.Frames.{IsNext}
use Rattle.pm_machine.proofs.TreeLemmas.{changes_node, reads, read_within, notes_last}
use Rattle.pm_machine.proofs.tree.Tree.reduce.Goals as goal

pub returns-clause-ok : goal.returns-clause-ok
returns-clause-ok c =
    let items = c.self.inside.nodes.items in
    let shown = ap (λ t. t.nodes) c.self.view_is in
    let here = ap (λ t. t.leaf) c.self.view_is in
    let branch = ap (λ t. t.branch) c.self.view_is in
    let deep : c.index_mut-node.result.now.depth ≡ c.requires.node.depth =
    ap (λ n. n.depth) (reads node_of items c.self.inside.leaf c.index_mut-node.result.now c.requires.node (ap₂ (λ ns i. slice_get ns i) shown here ∙ c.requires.stands) c.index_mut-node.ensures.value) in
    let count : c.len-count.result ≡ length c.args.self.now.nodes =
    c.len-count.ensures ∙ c.self.inside.nodes.ok.0 ∙ sym (length-map items node_of) ∙ ap length shown in
    let below = c.requires.below in
    let above = c.requires.above in
    let room : length c.self.inside.branch.items ≡ 251 = ap length branch ∙ c.requires.room in
    let replaced : c.index-replaced.result.now ≡ slice_index_or c.args.self.now.branch (c.requires.node.depth - 1) 0 =
    read_within c.self.inside.branch.items (c.index_mut-node.result.now.depth - 1) c.index-replaced.result.now 0 (omega (arith, deep, below, above, room)) c.index-replaced.ensures
    ∙ ap₂ (λ ns d. slice_index_or ns (d - 1) 0) branch deep in
    record {
      node = c.requires.node;
      stands = c.requires.stands;
      nodes =
          ap (λ t. t.nodes) c.select.ensures.same
          ∙ changes_node items c.self.inside.leaf c.args.self.now.leaf c.args.self.now.nodes c.requires.node c.index_mut-node.result.now _
          (λ n. record n { closed_by = Some c.args.ancestor }) shown here c.requires.stands c.index_mut-node.ensures.value refl;
      branch = ap (λ t. t.branch) c.select.ensures.same ∙ branch;
      leaf =
          let next : c.self.inside.leaf + 1 ≡ suc c.args.self.now.leaf = omega (arith, here) in
          subst (λ from. IsNext from c.select.new.self.nodes c.select.new.self.leaf) next c.select.ensures.leaf;
      taken =
          ap (λ t. t.taken) c.select.ensures.same
          ∙ notes_last c.reserve.new.self.items c.push_reserved.new.self.items _ _ c.args.self.now.taken c.push_reserved.ensures.items
          (ap reverse c.reserve.ensures.items ∙ ap (λ t. t.taken) c.self.view_is)
          (λ k. record { step = Reduce c.args.ancestor; mark = c.args.mark; leaf = here k; nodes = count k; replaced = replaced k });
    }
