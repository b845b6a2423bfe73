use Rattle.std.proofs.Common.{◌≡◌, length, sym, ◌∙◌, ap, subst}
use Rattle.std.proofs.lemmas.Bool.{OnTrue_at}
use Rattle.pm_store.specs.Marks.{counts_of, HasMark}
use Rattle.pm_calculus.specs.Skeleton.{reduce}
use Rattle.pm_run.specs.InStore.{AreBelow}
use Rattle.pm_run.specs.Meaning.{Unites}
use Rattle.pm_machine.specs.State.{CellNode}
use Rattle.pm_machine.specs.Node.{node_of}
use Rattle.pm_machine.specs.Inside.Frames.{IsReduced}
use Rattle.pm_machine.proofs.PlaceLemmas.{is_within, some_same}
use Rattle.pm_machine.proofs.MachineLemmas.{unites_grow, has_mark, leaf_stands, args_below, place_there, below_at, same_counts, opposite_of}
use Rattle.pm_machine.proofs.machine.reduce_tree.Goals as goal

pub leaf-leaf-requires : goal.leaf-leaf-requires
leaf-leaf-requires c =
    let there = leaf_stands _ _ _ _ c.requires.standing (reduce c.args.k) c.requires.may (λ n same. absurd cc) in
    is_within c.args.tree.now.nodes c.args.tree.now.leaf there.node there.stands

pub ancestor-ancestor-requires : goal.ancestor-ancestor-requires
ancestor-ancestor-requires c = place_there _ _ _ _ c.requires.standing (node_of c.leaf-leaf.result.now) c.leaf-leaf.ensures c.args.k c.requires.may

pub unite-requires-clause-left : goal.unite-requires-clause-left
unite-requires-clause-left c =
    subst (AreBelow (length c.args.store.now.cells)) (sym c.deref.ensures)
    (args_below _ _ _ _ c.requires.standing (node_of c.leaf-leaf.result.now) c.leaf-leaf.ensures)

pub unite-requires-clause-right : goal.unite-requires-clause-right
unite-requires-clause-right c =
    let leaf = node_of c.leaf-leaf.result.now in
    let has = c.ancestor-ancestor.ensures in
    subst (AreBelow (length c.args.store.now.cells)) (ap (λ (n : CellNode). n.literal.args) has.same ∙ sym c.deref-2.ensures)
    (below_at _ _ _ _ c.requires.standing leaf c.leaf-leaf.ensures has.has.place has.has.ancestor has.has.stands)

pub unite-requires-clause-lengths : goal.unite-requires-clause-lengths
unite-requires-clause-lengths c =
    let leaf = node_of c.leaf-leaf.result.now in
    let has = c.ancestor-ancestor.ensures in
    ap length c.deref.ensures
    ∙ same_counts _ _ _ _ c.requires.standing leaf c.leaf-leaf.ensures has.has.place has.has.ancestor has.has.stands
    (c.if-leaf-ancestor-2.false ∙ ap (λ (n : CellNode). n.literal.predicate) (sym has.same))
    ∙ ap (λ (n : CellNode). length n.literal.args) has.same ∙ ap length (sym c.deref-2.ensures)

pub undo-requires : goal.undo-requires
undo-requires c =
    let grown = unites_grow c.args.store.now c.deref.result.now c.deref-2.result.now c.unite.new.store (OnTrue_at c.if-not-branch.false c.in_ok-unite.ensures.unites) c.mark-mark.ensures.sound in
    subst (HasMark c.unite.new.store) (sym c.mark-mark.ensures.counts) (has_mark c.args.store.now c.unite.new.store c.mark-mark.ensures.sound grown.0)

pub returns-in-Err-clause-err : goal.returns-in-Err-clause-err
returns-in-Err-clause-err c =
    let grown = unites_grow c.args.store.now c.deref.result.now c.deref-2.result.now c.unite.new.store (OnTrue_at c.if-not-branch.false c.in_ok-unite.ensures.unites) c.mark-mark.ensures.sound in
    (c.undo.ensures.before c.args.store.now grown.0 c.mark-mark.ensures.counts, c.in-Err.ensures.err)

pub returns-clause-done : goal.returns-clause-done
returns-clause-done c =
    let reduced : IsReduced c.args.k (counts_of c.args.store.now) c.args.tree.now c.reduce.new.self =
    subst (λ mark. IsReduced c.args.k mark c.args.tree.now c.reduce.new.self) c.mark-mark.ensures.counts c.in_default.ensures.ok in
    let same : node_of c.leaf-leaf.result.now ≡ reduced.node = some_same _ _ (sym c.leaf-leaf.ensures ∙ reduced.stands) in
    record {
      reduced = reduced;
      ancestor = node_of c.ancestor-ancestor.result.now;
      is_ancestor = c.ancestor-ancestor.ensures;
      sign = ap (λ (n : CellNode). n.literal.positive) (sym same) ∙ opposite_of c.leaf-leaf.result.now.positive c.ancestor-ancestor.result.now.positive c.if-leaf-ancestor.false;
      predicate = ap (λ (n : CellNode). n.literal.predicate) (sym same) ∙ c.if-leaf-ancestor-2.false;
      unites =
          subst (λ cells. Unites c.args.store.now cells c.ancestor-ancestor.result.now.args.items c.unite.new.store) (ap (λ (n : CellNode). n.literal.args) same)
          (subst (λ cells. Unites c.args.store.now c.leaf-leaf.result.now.args.items cells c.unite.new.store) c.deref-2.ensures
          (subst (λ cells. Unites c.args.store.now cells c.deref-2.result.now c.unite.new.store) c.deref.ensures (OnTrue_at c.if-not-branch.false c.in_ok-unite.ensures.unites)));
    }
