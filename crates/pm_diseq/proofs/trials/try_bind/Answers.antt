use Rattle.std.proofs.Common.{◌≡◌, Bool, sym, subst}
use Rattle.std.specs.Bool.{OnTrue, OnFalse}
use Rattle.pm_store.specs.Equations.{Equations}
use Rattle.pm_store.proofs.MarkLemmas.{marks_last}
use Rattle.pm_diseq.specs.Standing.{StandsAt, StoodBefore}
use Rattle.pm_diseq.specs.Inside.Trying.{Advances}
use Rattle.pm_diseq.proofs.StandingLemmas.{pools_stood_at_marks}
use Rattle.pm_diseq.proofs.TrialLemmas.{later_by_binding, stays}
use Rattle.pm_diseq.proofs.trials.try_bind.Goals as goal

pub bound_since-requires : goal.bound_since-requires
bound_since-requires c = marks_last c.args.store.now _ _ (later_by_binding _ _ _ _ c.in_ok-bind.ensures.ok) c.mark-mark.ensures.can

pub settle_after-requires : goal.settle_after-requires
settle_after-requires c =
    subst (StoodBefore c.bind.new.self c.args.pool.now) (sym c.bound_since.ensures.variables)
    (pools_stood_at_marks c.args.store.now _ _ _ c.mark-mark.ensures.sound c.requires.stands (later_by_binding _ _ _ _ c.in_ok-bind.ensures.ok) c.mark-mark.ensures.counts)

pub undo-requires : goal.undo-requires
undo-requires c = marks_last c.args.store.now _ _ (later_by_binding _ _ _ _ c.in_ok-bind.ensures.ok) c.mark-mark.ensures.can

pub returns-then-not-apart-clause-pool : goal.returns-then-not-apart-clause-pool
returns-then-not-apart-clause-pool c =
    let back = c.undo.ensures.before c.args.store.now (later_by_binding _ _ _ _ c.in_ok-bind.ensures.ok) c.mark-mark.ensures.counts in
    let same : c.settle_after.new.self ≡ c.args.pool.now =
    subst (λ (b : Bool). OnFalse b (c.settle_after.new.self ≡ c.args.pool.now)) c.if-not-apart.true c.in_ok-apart.ensures.refused in
    subst (λ (s : Equations). Advances c.args.store.now s c.args.pool.now c.settle_after.new.self) (sym back)
    (subst (Advances c.args.store.now c.args.store.now c.args.pool.now) (sym same) (stays _ _ c.requires.stands))

pub returns-else-not-apart-clause-pool : goal.returns-else-not-apart-clause-pool
returns-else-not-apart-clause-pool c = record {
  is_later = later_by_binding _ _ _ _ c.in_ok-bind.ensures.ok;
  grows = c.in_ok-apart.ensures.kept.grows;
  stands = subst (λ (b : Bool). OnTrue b (StandsAt c.bind.new.self c.settle_after.new.self)) c.if-not-apart.false c.in_ok-apart.ensures.stands;
}
