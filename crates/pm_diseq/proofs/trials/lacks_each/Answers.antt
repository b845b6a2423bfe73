use Rattle.std.proofs.Common.{ℕ, sym, ◌∙◌, subst, arith, eqb-true, eq-eqb, true≢false}
use Rattle.std.specs.Prelude.{All}
use Rattle.std.proofs.lemmas.List.{take_all}
use Rattle.std.proofs.lemmas.List.Elements.{All-more}
use Rattle.pm_store.specs.Trees.{tree, Occurs}
use Rattle.pm_diseq.proofs.TrialLemmas.{lacks_variable, lacks_application}
use Rattle.pm_diseq.proofs.trials.lacks_each.Goals as goal
use Rattle.pm_diseq.proofs.trials.lacks_each.Goals.{in-Free+else-eq, in-App+else-not-is_empty}

pub cells-preserved : goal.cells-preserved
cells-preserved c =
    let lacks = λ (d : ℕ). ¬ Occurs c.args.v (tree c.args.store.now d) in
    All-more lacks c.args.cells.now c.cells.cell-index c.cell-item.result c.cells-test.true c.cells.invariant
    (subst lacks c.cell-item.is (elim c.match-look.branch [
      | in-Free+else-eq w ↦ lacks_variable c.args.store.now c.cell-item.result c.args.v w.in-Free.w w.in-Free.ensures.sound w.in-Free.ensures.shown.1 w.in-Free.ensures.tree
          (λ same. true≢false (sym (eq-eqb _ _ same) ∙ sym w.if-eq.ensures))
      | in-App+else-not-is_empty w ↦ lacks_application c.args.store.now c.cell-item.result c.args.v w.in-App.symbol w.in-App.args.now w.in-App.ensures.tree
          (λ k d within. absurd (omega (arith, within, eqb-true _ _ (sym w.if-not-is_empty.ensures))))
    ]))

pub returns : goal.returns
returns c = λ _.
    subst (All (λ d. ¬ Occurs c.args.v (tree c.args.store.now d))) (take_all c.cells.cell-index c.args.cells.now c.cells-test.false) c.cells.invariant
