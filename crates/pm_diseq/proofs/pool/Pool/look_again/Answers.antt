use Rattle.std.proofs.Common.{ℕ, List, [], ◌∷◌, ◌++◌, take, sym, ◌∙◌, ap, subst}
use Rattle.std.proofs.lemmas.List.{take_more, take_all}
use Rattle.pm_diseq.specs.Inside.Waiting.{AreLookedAt}
use Rattle.pm_diseq.proofs.PoolLemmas.{pairs_rewaited, rewaits_then}
use Rattle.pm_diseq.proofs.WalkLemmas.{LooksAt, looks_on, identical_before}
use Rattle.pm_diseq.proofs.pool.Pool.look_again.Goals as goal

pub look_at-requires : goal.look_at-requires
look_at-requires c = pairs_rewaited _ _ _ c.variables.invariant.0 c.requires

pub returns-in_err-look_at-clause-more : goal.returns-in_err-look_at-clause-more
returns-in_err-look_at-clause-more c = rewaits_then _ _ _ c.variables.invariant.0 c.in_err-look_at.ensures.more

pub returns-then-not-branch-clause-ok : goal.returns-then-not-branch-clause-ok
returns-then-not-branch-clause-ok c =
    identical_before c.args.store.now _ _ c.variables.invariant.0
    (subst (AreLookedAt c.args.store.now c.variables.self c.v-item.result c.look_at.new.self) c.if-not-branch.true c.in_ok-look_at.ensures.ok)

pub returns-then-not-branch-clause-more : goal.returns-then-not-branch-clause-more
returns-then-not-branch-clause-more c = rewaits_then _ _ _ c.variables.invariant.0 c.in_ok-look_at.ensures.more

pub variables-preserved : goal.variables-preserved
variables-preserved c = (
  rewaits_then _ _ _ c.variables.invariant.0 c.in_ok-look_at.ensures.more,
  subst (λ (vs : List ℕ). LooksAt c.args.store.now c.args.self.now vs c.look_at.new.self)
      (sym (take_more c.args.bound.now c.variables.v-index c.v-item.result c.variables-test.true ∙ ap (λ v. take c.variables.v-index c.args.bound.now ++ v ∷ []) (sym c.v-item.is)))
      (looks_on c.args.store.now c.args.self.now c.variables.self c.look_at.new.self (take c.variables.v-index c.args.bound.now) c.v-item.result
      c.variables.invariant.0 c.in_ok-look_at.ensures.more c.variables.invariant.1
      (subst (AreLookedAt c.args.store.now c.variables.self c.v-item.result c.look_at.new.self) c.if-not-branch.false c.in_ok-look_at.ensures.ok)),
)

pub returns-clause-ok : goal.returns-clause-ok
returns-clause-ok c =
    subst (λ (vs : List ℕ). LooksAt c.args.store.now c.args.self.now vs c.variables.self) (take_all c.variables.v-index c.args.bound.now c.variables-test.false)
    c.variables.invariant.1
