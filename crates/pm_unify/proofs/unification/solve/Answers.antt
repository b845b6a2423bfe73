use Rattle.pm_unify.proofs.UnifyingLemmas.{unifying_first, unifying_done, unifying_clash, unifying_cycle, unifying_bound}
use Rattle.pm_unify.proofs.unification.solve.Goals as goal

pub loop-pairs-init : goal.loop-pairs-init
loop-pairs-init c = unifying_first _ _ _ _ _ c.requires.sound c.requires.left c.requires.right c.in_ok-pairs.ensures.pending c.in_ok-pairs.ensures.taken

pub returns-in-Done-clause-ok : goal.returns-in-Done-clause-ok
returns-in-Done-clause-ok c = unifying_done _ _ _ _ _ _ c.loop-pairs.invariant _ _ _ c.in_ok-next_step.ensures c.in-Done.is

pub returns-in-Clash-clause-ok : goal.returns-in-Clash-clause-ok
returns-in-Clash-clause-ok c = unifying_clash _ _ _ _ _ _ c.loop-pairs.invariant _ _ _ c.in_ok-next_step.ensures c.in-Clash.is

pub returns-then-branch-clause-ok : goal.returns-then-branch-clause-ok
returns-then-branch-clause-ok c =
    unifying_cycle _ _ _ _ _ _ c.loop-pairs.invariant _ _ _ _ _ c.in_ok-next_step.ensures c.in-Bind.is
    (c.in_ok-occurs-in-Bind.ensures.0 c.if-branch.true)

pub loop-pairs-preserved : goal.loop-pairs-preserved
loop-pairs-preserved c =
    unifying_bound _ _ _ _ _ _ c.loop-pairs.invariant _ _ _ _ _ c.in_ok-next_step.ensures c.in-Bind.is _ c.in_ok-bind-in-Bind.ensures.ok c.in_ok-bind-in-Bind.ensures.sound
