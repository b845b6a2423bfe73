use Rattle.std.proofs.Common.{refl, subst}
use Rattle.pm_store.proofs.MarkLemmas.{growth_is_later}
use Rattle.pm_diseq.specs.Inside.Waiting.{Watches}
use Rattle.pm_diseq.specs.Notes.{as_pair}
use Rattle.pm_diseq.proofs.StandingLemmas.{stands_added, grows_added}
use Rattle.pm_diseq.proofs.pool.Pool.add.Goals as goal

pub returns-in-Ok-true-clause-answer : goal.returns-in-Ok-true-clause-answer
returns-in-Ok-true-clause-answer c = (
  λ _ identical. subst (Watches c.args.store.now (as_pair c.args.left.now c.args.right.now) c.keep.new.self) c.in-Ok-true.field-0-test c.in-Ok-true.ensures.ok
      c.args.store.now (growth_is_later c.args.store.now).unchanged c.stores_are_sound.ensures (λ v waits free. free) identical,
  λ _. refl,
)

pub returns-in-Ok-true-clause-kept : goal.returns-in-Ok-true-clause-kept
returns-in-Ok-true-clause-kept c = grows_added _ _ _ c.in-Ok-true.ensures.begun

pub returns-in-Ok-true-clause-stands : goal.returns-in-Ok-true-clause-stands
returns-in-Ok-true-clause-stands c =
    stands_added _ _ _ (as_pair c.args.left.now c.args.right.now) c.requires.stands c.requires.within c.in-Ok-true.ensures.begun
    (subst (Watches c.args.store.now (as_pair c.args.left.now c.args.right.now) c.keep.new.self) c.in-Ok-true.field-0-test c.in-Ok-true.ensures.ok)
