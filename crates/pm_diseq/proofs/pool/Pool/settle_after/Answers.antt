use Rattle.std.proofs.Common.{refl, subst}
use Rattle.pm_diseq.specs.Inside.Waiting.{AreAllLookedAt}
use Rattle.pm_diseq.proofs.StandingLemmas.{stands_settled, grows_settled, pairs_stay_apart}
use Rattle.pm_diseq.proofs.pool.Pool.settle_after.Goals as goal

pub returns-in-Ok-true-clause-answer : goal.returns-in-Ok-true-clause-answer
returns-in-Ok-true-clause-answer c = (
  λ _. pairs_stay_apart _ _ _ _ c.stores_are_sound.ensures c.requires c.look_again.ensures.more (subst (AreAllLookedAt c.args.store.now c.args.self.now c.args.bound.now c.look_again.new.self) c.in-Ok-true.field-0-test c.in-Ok-true.ensures.ok),
  λ _. refl,
)

pub returns-in-Ok-true-clause-kept : goal.returns-in-Ok-true-clause-kept
returns-in-Ok-true-clause-kept c = grows_settled _ _ c.look_again.ensures.more

pub returns-in-Ok-true-clause-stands : goal.returns-in-Ok-true-clause-stands
returns-in-Ok-true-clause-stands c = stands_settled _ _ _ _ c.requires c.look_again.ensures.more (subst (AreAllLookedAt c.args.store.now c.args.self.now c.args.bound.now c.look_again.new.self) c.in-Ok-true.field-0-test c.in-Ok-true.ensures.ok)
