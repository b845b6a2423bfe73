use Rattle.std.proofs.Common.{refl, sym, eqb-true, true≢false}
use Rattle.pm_unify.proofs.OccurrenceLemmas.{occurs_in_variable, constant_lacks, lacks_more, lacks_all, found_among}
use Rattle.pm_unify.proofs.occurrence.occurs_at_once.Goals as goal
use Rattle.pm_unify.proofs.occurrence.occurs_at_once.Goals.{in-Free+else-eq, in-App+else-not-is_empty}

pub returns-then-eq : goal.returns-then-eq
returns-then-eq c = (
  λ _. found_among c.args.store.now c.args.v c.args.cells.now _ _ c.cells-test.true c.cell-item.is
      ((occurs_in_variable _ _ _ c.in-Free.w _ c.requires.sound c.in-Free.ensures.shown.1 c.in-Free.ensures.tree c.if-eq.ensures).0 refl),
  λ _. refl,
)

pub cells-preserved : goal.cells-preserved
cells-preserved c =
    lacks_more c.args.store.now c.args.v c.args.cells.now _ _ c.cells-test.true c.cell-item.is c.cells.invariant
    (elim c.match-look.branch [
      | in-Free+else-eq w ↦ (λ occurs. true≢false (sym
          ((occurs_in_variable _ _ _ w.in-Free.w _ c.requires.sound w.in-Free.ensures.shown.1 w.in-Free.ensures.tree w.if-eq.ensures).1 occurs)))
      | in-App+else-not-is_empty w ↦ constant_lacks c.args.store.now c.args.v c.cell-item.result w.in-App.symbol w.in-App.args.now w.in-App.ensures.tree (eqb-true _ _ (sym w.if-not-is_empty.ensures))
    ])

pub returns : goal.returns
returns c = (
  λ answer. absurd (true≢false (sym answer)),
  λ among. absurd (lacks_all c.args.store.now c.args.v c.args.cells.now _ c.cells-test.false c.cells.invariant among),
)
