use Rattle.std.proofs.Common.{◌≡◌, length, map, Some, slice_get, sym, ◌∙◌, ap, subst}
use Rattle.pm_store.specs.Marks.{counts_of, HasMark}
use Rattle.std.proofs.lemmas.Bool.{OnTrue_at, OnFalse_at}
use Rattle.pm_logic.specs.Problem.{Literal}
use Rattle.pm_calculus.specs.Skeleton.{extend, literals_at}
use Rattle.pm_compile.specs.Scheme.{extension_code}
use Rattle.pm_run.specs.Bodies.{variables_at}
use Rattle.pm_run.specs.InStore.{AreBelow}
use Rattle.pm_run.specs.Runner.{child_of, ComesTo, FailsFrom}
use Rattle.pm_machine.specs.State.{CellNode}
use Rattle.pm_machine.specs.Node.{node_of}
use Rattle.pm_machine.specs.Inside.Frames.{IsExtended}
use Rattle.pm_machine.proofs.PlaceLemmas.{is_within, some_same}
use Rattle.pm_machine.proofs.MachineLemmas.{has_mark, leaf_stands, can_step, args_below, clause_within, extends_by, extension_grows}
use Rattle.pm_machine.proofs.machine.extend_tree.Goals as goal

pub leaf-leaf-requires : goal.leaf-leaf-requires
leaf-leaf-requires c =
    let there = leaf_stands _ _ _ _ c.requires.standing (extend c.args.clause c.args.literal) c.requires.may (λ n same. absurd cc) in
    is_within c.args.tree.now.nodes c.args.tree.now.leaf there.node there.stands

pub extend-requires-clause-step : goal.extend-requires-clause-step
extend-requires-clause-step c = record {
  clause = (clause_within _ _ _ _ c.requires.standing (node_of c.leaf-leaf.result.now) c.leaf-leaf.ensures c.args.clause c.args.literal c.requires.may).0;
  cells = c.requires.standing.cells;
  none = c.requires.children;
}

pub extend-requires-clause-leaf : goal.extend-requires-clause-leaf
extend-requires-clause-leaf c =
    let leaf = node_of c.leaf-leaf.result.now in
    record {
      literal = (clause_within _ _ _ _ c.requires.standing leaf c.leaf-leaf.ensures c.args.clause c.args.literal c.requires.may).1;
      count = λ l is. ap length c.deref.ensures ∙ extends_by _ _ _ _ c.requires.standing leaf c.leaf-leaf.ensures c.requires.standing.valid c.args.clause c.args.literal c.requires.may l is;
      below = subst (AreBelow (length c.args.store.now.cells)) (sym c.deref.ensures) (args_below _ _ _ _ c.requires.standing leaf c.leaf-leaf.ensures);
    }

pub returns-then-not-branch-clause-fails : goal.returns-then-not-branch-clause-fails
returns-then-not-branch-clause-fails c node stands l is =
    let clauses = c.args.runner.now.problem.clauses in
    let same : node_of c.leaf-leaf.result.now ≡ node = some_same _ _ (sym c.leaf-leaf.ensures ∙ stands) in
    subst (λ cells. FailsFrom clauses (extension_code c.args.clause c.args.literal l) (variables_at clauses c.args.clause) cells c.args.store.now)
    (c.deref.ensures ∙ ap (λ (n : CellNode). n.literal.args) same) (OnFalse_at c.if-not-branch.true c.in_ok-extend.ensures.fails l is)

pub extend-requires-2 : goal.extend-requires-2
extend-requires-2 c =
    let leaf = node_of c.leaf-leaf.result.now in
    record { steps = can_step _ _ _ _ c.requires.standing leaf c.leaf-leaf.ensures; shallow = c.requires.depth }

pub undo-requires : goal.undo-requires
undo-requires c =
    let clauses = c.args.runner.now.problem.clauses in
    let leaf = node_of c.leaf-leaf.result.now in
    let comes : (l : Literal) → slice_get (literals_at clauses c.args.clause) c.args.literal ≡ Some l
    → ComesTo clauses (extension_code c.args.clause c.args.literal l) (variables_at clauses c.args.clause) leaf.literal.args c.args.store.now c.extend.new.store (map child_of c.extend.new.children.items) =
    λ l is. subst (λ cells. ComesTo clauses (extension_code c.args.clause c.args.literal l) (variables_at clauses c.args.clause) cells c.args.store.now c.extend.new.store (map child_of c.extend.new.children.items))
    c.deref.ensures (OnTrue_at c.if-not-branch.false c.in_ok-extend.ensures.comes l is) in
    let grown = extension_grows _ _ _ _ c.requires.standing leaf c.leaf-leaf.ensures c.args.clause c.args.literal c.requires.may c.extend.new.store (map child_of c.extend.new.children.items) comes in
    subst (HasMark c.extend.new.store) (sym c.mark-mark.ensures.counts) (has_mark c.args.store.now c.extend.new.store c.mark-mark.ensures.sound grown.0)

pub returns-in-Err-clause-err : goal.returns-in-Err-clause-err
returns-in-Err-clause-err c =
    let clauses = c.args.runner.now.problem.clauses in
    let leaf = node_of c.leaf-leaf.result.now in
    let comes : (l : Literal) → slice_get (literals_at clauses c.args.clause) c.args.literal ≡ Some l
    → ComesTo clauses (extension_code c.args.clause c.args.literal l) (variables_at clauses c.args.clause) leaf.literal.args c.args.store.now c.extend.new.store (map child_of c.extend.new.children.items) =
    λ l is. subst (λ cells. ComesTo clauses (extension_code c.args.clause c.args.literal l) (variables_at clauses c.args.clause) cells c.args.store.now c.extend.new.store (map child_of c.extend.new.children.items))
    c.deref.ensures (OnTrue_at c.if-not-branch.false c.in_ok-extend.ensures.comes l is) in
    let grown = extension_grows _ _ _ _ c.requires.standing leaf c.leaf-leaf.ensures c.args.clause c.args.literal c.requires.may c.extend.new.store (map child_of c.extend.new.children.items) comes in
    (c.undo.ensures.before c.args.store.now grown.0 c.mark-mark.ensures.counts, c.in-Err.ensures.err)

pub returns-clause-done : goal.returns-clause-done
returns-clause-done c =
    let clauses = c.args.runner.now.problem.clauses in
    let children = map child_of c.extend.new.children.items in
    let extended : IsExtended c.args.clause c.args.literal (counts_of c.args.store.now) children c.args.tree.now c.extend-2.new.self =
    subst (λ mark. IsExtended c.args.clause c.args.literal mark children c.args.tree.now c.extend-2.new.self) c.mark-mark.ensures.counts c.in_default.ensures.ok in
    let same : node_of c.leaf-leaf.result.now ≡ extended.node = some_same _ _ (sym c.leaf-leaf.ensures ∙ extended.stands) in
    record {
      children = children;
      extended = extended;
      comes = λ l is.
          subst (λ cells. ComesTo clauses (extension_code c.args.clause c.args.literal l) (variables_at clauses c.args.clause) cells c.args.store.now c.extend.new.store children)
          (c.deref.ensures ∙ ap (λ (n : CellNode). n.literal.args) same) (OnTrue_at c.if-not-branch.false c.in_ok-extend.ensures.comes l is);
    }
