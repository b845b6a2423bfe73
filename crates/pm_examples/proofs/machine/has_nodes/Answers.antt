use Rattle.std.proofs.Common.{◌≡◌, ℕ, ◌<◌, length, slice_index_or, sym, ◌∙◌, ap, subst, arith}
use Rattle.pm_store.specs.Equations.{Equations}
use Rattle.pm_examples.proofs.LeafLemmas.{below_at, cells_at}
use Rattle.pm_examples.proofs.machine.has_nodes.Goals as goal

pub is_nested-requires : goal.is_nested-requires
is_nested-requires c =
    let node = c.index-nodes-place.result in
    let one : length node.args.items ≡ 1 = sym c.len.ensures.value ∙ c.if-len-ne1.false in
    let cells = cells_at c.nodes-nodes.result.now c.args.machine.now.state.nodes (length c.args.machine.now.state.equations.cells) c.nodes.place node
    c.nodes-nodes.ensures.nodes c.nodes-nodes.ensures.built.cells c.nodes-test.true c.index-nodes-place.is in
    subst (λ (s : Equations). c.index-deref-0.result < length s.cells) (sym c.store.ensures)
    (below_at (length c.args.machine.now.state.equations.cells) node.args.items 0 c.index-deref-0.result cells (omega (arith, one))
    (c.index-deref-0.is ∙ ap (λ xs. slice_index_or xs 0 c.index-deref-0.result) c.deref.ensures))
