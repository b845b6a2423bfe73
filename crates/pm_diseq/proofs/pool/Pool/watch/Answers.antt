use Rattle.std.proofs.Common.{[], ◌∷◌, ◌∙◌, subst}
use Rattle.pm_diseq.specs.Inside.Comparing.{Tells}
use Rattle.pm_diseq.specs.Inside.Waiting.{pair_at}
use Rattle.pm_diseq.proofs.PoolLemmas.{waits_apart, waits_twice}
use Rattle.pm_diseq.proofs.pool.Pool.watch.Goals as goal

pub returns-in_err-wait-in-TwoVariables-2-clause-more : goal.returns-in_err-wait-in-TwoVariables-2-clause-more
returns-in_err-wait-in-TwoVariables-2-clause-more c =
    (c.in-TwoVariables.v ∷ [], c.in_err-wait-in-TwoVariables-2.ensures.err ∙ c.in_ok-wait-in-TwoVariables.ensures.ok)

pub returns-in_ok-wait-in-OneVariable-clause-ok : goal.returns-in_ok-wait-in-OneVariable-clause-ok
returns-in_ok-wait-in-OneVariable-clause-ok c =
    waits_apart c.args.store.now c.args.self.now _ (pair_at c.args.self.now c.args.place) (c.in-OneVariable.v ∷ []) c.in_ok-wait-in-OneVariable.ensures.ok
    (subst (Tells c.args.store.now (pair_at c.args.self.now c.args.place)) c.in-OneVariable.is c.in_ok-difference_at.ensures)

pub returns-in_ok-wait-in-OneVariable-clause-more : goal.returns-in_ok-wait-in-OneVariable-clause-more
returns-in_ok-wait-in-OneVariable-clause-more c = (c.in-OneVariable.v ∷ [], c.in_ok-wait-in-OneVariable.ensures.ok)

pub returns-in_ok-wait-in-TwoVariables-2-clause-ok : goal.returns-in_ok-wait-in-TwoVariables-2-clause-ok
returns-in_ok-wait-in-TwoVariables-2-clause-ok c =
    waits_apart c.args.store.now c.args.self.now _ (pair_at c.args.self.now c.args.place) (c.in-TwoVariables.v ∷ c.in-TwoVariables.w ∷ [])
    (waits_twice _ _ _ _ _ _ c.requires.place c.in_ok-wait-in-TwoVariables.ensures.ok c.in_ok-wait-in-TwoVariables-2.ensures.ok)
    (subst (Tells c.args.store.now (pair_at c.args.self.now c.args.place)) c.in-TwoVariables.is c.in_ok-difference_at.ensures)

pub returns-in_ok-wait-in-TwoVariables-2-clause-more : goal.returns-in_ok-wait-in-TwoVariables-2-clause-more
returns-in_ok-wait-in-TwoVariables-2-clause-more c = (
  c.in-TwoVariables.v ∷ c.in-TwoVariables.w ∷ [],
  waits_twice _ _ _ _ _ _ c.requires.place c.in_ok-wait-in-TwoVariables.ensures.ok c.in_ok-wait-in-TwoVariables-2.ensures.ok,
)
