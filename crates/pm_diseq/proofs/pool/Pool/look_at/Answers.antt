use Rattle.std.proofs.Common.{◌≡◌, ℕ, Option, Some, None, refl}
use Rattle.pm_diseq.proofs.WalkLemmas.{walks_first, walks_done, walks_cells, walks_grown, walks_identical, walks_still, walks_on, places_fewer}
use Rattle.pm_diseq.proofs.pool.Pool.look_at.Goals as goal

pub entries-init : goal.entries-init
entries-init c = walks_first _ _ _ _ c.newest_at-next.ensures

pub watch-requires-clause-within : goal.watch-requires-clause-within
watch-requires-clause-within c = walks_cells _ _ _ _ _ _ c.in-Some.is c.entries.invariant c.requires

pub returns-in_err-watch-clause-more : goal.returns-in_err-watch-clause-more
returns-in_err-watch-clause-more c = walks_grown _ _ _ _ _ _ c.in-Some.is c.entries.invariant _ c.requires c.in_err-watch.ensures.more

pub returns-then-not-branch-clause-ok : goal.returns-then-not-branch-clause-ok
returns-then-not-branch-clause-ok c =
    walks_identical _ _ _ _ _ _ c.in-Some.is c.entries.invariant c.requires _ _ c.if-not-branch.true c.in_ok-watch.ensures.ok

pub returns-then-not-branch-clause-more : goal.returns-then-not-branch-clause-more
returns-then-not-branch-clause-more c = walks_grown _ _ _ _ _ _ c.in-Some.is c.entries.invariant _ c.requires c.in_ok-watch.ensures.more

pub entries-smaller : goal.entries-smaller
entries-smaller c =
    places_fewer c.args.store.now c.args.self.now c.entries.self _ c.args.v c.in-Some.place _ _ c.in-Some.is
    (c.previous_at-next.ensures c.args.v (walks_still _ _ _ _ _ _ c.in-Some.is c.entries.invariant _ c.in_ok-watch.ensures.more))

pub entries-preserved : goal.entries-preserved
entries-preserved c =
    walks_on _ _ _ _ _ _ c.in-Some.is c.entries.invariant _ _ _ c.requires c.in_ok-watch.ensures.more c.if-not-branch.false c.in_ok-watch.ensures.ok
    (c.previous_at-next.ensures c.args.v (walks_still _ _ _ _ _ _ c.in-Some.is c.entries.invariant _ c.in_ok-watch.ensures.more))

pub returns-clause-ok : goal.returns-clause-ok
returns-clause-ok c = walks_done _ _ _ _ _ (none c.entries.next c.in_default.not-Some) c.entries.invariant
  where
    none : (o : Option ℕ) → ((x : ℕ) → o ≡ Some x → ⊥) → o ≡ None
    none None not_some = refl
    none (Some x) not_some = absurd (not_some x refl)
