use Rattle.pm_run.proofs.UniteLemmas.{answered_true, answered_false, uniting_next, uniting_fails, uniting_last}
use Rattle.pm_run.proofs.uniting.unite_each.Goals as goal

pub returns-then-not-branch-clause-united : goal.returns-then-not-branch-clause-united
returns-then-not-branch-clause-united c =
    uniting_fails _ _ _ _ _ c.pairs.invariant _ _ c.pairs-test.true c.requires.lengths c.index-left-i.is c.index-right-i.is
    (answered_false _ _ _ _ _ c.if-not-branch.true c.in_ok-unify.ensures.ok).1

pub pairs-preserved : goal.pairs-preserved
pairs-preserved c =
    uniting_next _ _ _ _ _ c.pairs.invariant _ _ c.pairs-test.true c.requires.lengths c.index-left-i.is c.index-right-i.is _
    (answered_true _ _ _ _ _ c.if-not-branch.false c.in_ok-unify.ensures.ok)

pub returns-clause-united : goal.returns-clause-united
returns-clause-united c = uniting_last _ _ _ _ _ c.pairs.invariant c.requires.lengths c.pairs-test.false
