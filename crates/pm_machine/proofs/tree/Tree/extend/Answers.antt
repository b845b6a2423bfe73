use Rattle.std.proofs.Common.{◌≡◌, ◌+◌, ◌-◌, suc, Some, slice_get, slice_index_or, length, map, set, reverse, refl, sym, ◌∙◌, ap, ap₂, arith, subst}
use Rattle.std.proofs.lemmas.List.{length-map}
use Rattle.pm_run.specs.Runner.{child_of}
use Rattle.pm_machine.specs.declared.tree.Step.TheVariants.{Extend}
use Rattle.pm_machine.specs.Node.{node_of}
use Rattle.pm_machine.specs.Inside.Frames.{IsNext}
use Rattle.pm_machine.proofs.TreeLemmas.{changes_and_adds, reads, read_within, notes_last}
use Rattle.pm_machine.proofs.tree.Tree.extend.Goals as goal

pub returns-clause-ok : goal.returns-clause-ok
returns-clause-ok c =
    let items = c.self.inside.nodes.items in
    let node = c.requires.steps.node in
    let shown = ap (λ t. t.nodes) c.self.view_is in
    let here = ap (λ t. t.leaf) c.self.view_is in
    let branch = ap (λ t. t.branch) c.self.view_is in
    let deep : c.index.result.now.depth ≡ node.depth =
    ap (λ n. n.depth) (reads node_of items c.self.inside.leaf c.index.result.now node (ap₂ (λ ns i. slice_get ns i) shown here ∙ c.requires.steps.stands) c.index.ensures) in
    let count : c.len-count.result ≡ length c.args.self.now.nodes =
    c.len-count.ensures ∙ c.self.inside.nodes.ok.0 ∙ sym (length-map items node_of) ∙ ap length shown in
    let below = c.requires.steps.below in
    let above = c.requires.steps.above in
    let room : length c.self.inside.branch.items ≡ 251 = ap length branch ∙ c.requires.steps.room in
    let replaced : c.index-replaced.result.now ≡ slice_index_or c.args.self.now.branch (c.requires.steps.node.depth - 1) 0 =
    read_within c.self.inside.branch.items (c.index.result.now.depth - 1) c.index-replaced.result.now 0 (omega (arith, deep, below, above, room)) c.index-replaced.ensures
    ∙ ap₂ (λ ns d. slice_index_or ns (d - 1) 0) branch deep in
    record {
      node = node;
      stands = c.requires.steps.stands;
      nodes =
          ap (λ t. t.nodes) c.select.ensures.same
          ∙ changes_and_adds items c.insert_children.new.nodes.items c.self.inside.leaf c.args.self.now.leaf c.index.result.now.depth
          c.args.self.now.nodes node c.index_mut.result.now _ (map child_of c.args.children.now.items)
          (λ n. record n { clause = Some c.args.clause }) shown here c.requires.steps.stands deep
          c.in_ok-insert_children.ensures.ok c.index_mut.ensures.value refl;
      branch =
          ap (λ t. t.branch) c.select.ensures.same
          ∙ (λ k. set (branch k) (deep k - 1) (here k));
      leaf =
          let next : c.self.inside.leaf + 1 ≡ suc c.args.self.now.leaf = omega (arith, here) in
          subst (λ from. IsNext from c.select.new.self.nodes c.select.new.self.leaf) next c.select.ensures.leaf;
      taken =
          ap (λ t. t.taken) c.select.ensures.same
          ∙ notes_last c.reserve.new.self.items c.push_reserved.new.self.items _ _ c.args.self.now.taken c.push_reserved.ensures.items
          (ap reverse c.reserve.ensures.items ∙ ap (λ t. t.taken) c.self.view_is)
          (λ k. record { step = Extend c.args.clause c.args.literal; mark = c.args.mark; leaf = here k; nodes = count k; replaced = replaced k });
    }
