use Rattle.std.proofs.Common.{◌≡◌, ℕ, ◌<◌, Some, length, sym, ◌∙◌, ap, subst, arith}
use Rattle.std.proofs.lemmas.List.{length_push}
use Rattle.std.proofs.lemmas.Option.{slice_get_within}
use Rattle.pm_logic.specs.Term.{Term}
use Rattle.pm_store.specs.Entries.{Variable}
use Rattle.pm_store.specs.Equations.{Equations, with_cell, with_binding, target_of, IsFree}
use Rattle.pm_store.specs.Trees.{Occurs}
use Rattle.pm_store.specs.Sound.{CanBind, IsSound}
use Rattle.pm_store.specs.Growth.{GainsVariable}
use Rattle.pm_store.proofs.ListLemmas.{if_other}
use Rattle.pm_store.proofs.TreeLemmas.{free_variables_stand}
use Rattle.pm_store.proofs.GrowthLemmas.{free_kept}
use Rattle.pm_store.proofs.store.tests.lengthen.Goals as goal

apart : (s : Equations) (v w : ℕ) → IsFree s v → w ≡ length s.cells → v ≡ w → ⊥
apart s v w free place same = absurd (below v w (length s.cells) (slice_get_within s.cells v Variable free.variable) place same)
  where
    below : (m n k : ℕ) → m < k → n ≡ k → m ≡ n → ⊥
    below m n k lt is e = omega arith

-- a free variable can be bound to a new one, which is then free
binds : (old new : Equations) (v w : ℕ) → new ≡ with_cell old Variable → w ≡ length old.cells → IsSound new → IsFree new w → IsFree old v → CanBind new v w
binds old new v w is place sound free was = record {
  free = subst (λ (s : Equations). IsFree s v) (sym is) (free_kept old Variable v was);
  within = slice_get_within new.cells w Variable free.variable;
  apart = λ occurs. apart old v w was place (subst (λ (u : Term). Occurs v u) (free_variables_stand new w sound free) occurs);
}

stays_free : (old new after : Equations) (v w : ℕ) → after ≡ with_binding new v w → w ≡ length old.cells → IsFree new w → IsFree old v → IsFree after w
stays_free old new after v w is place free was =
    subst (λ (s : Equations). IsFree s w) (sym is) (record {
      variable = free.variable;
      unbound = if_other v w (Some w) (target_of new.bindings w) (apart old v w was place) ∙ free.unbound;
    })

pub bind-requires : goal.bind-requires
unfolding GainsVariable
bind-requires c =
    binds c.links.store c.fresh.new.self c.links.last c.in_ok-next.next c.in_ok-next.ensures.ok c.in_ok-next.ensures.place
    c.in_ok-next.ensures.gains.sound c.in_ok-next.ensures.gains.free c.links.invariant.free

pub links-preserved : goal.links-preserved
unfolding GainsVariable
links-preserved c =
    let more = ap (λ (s : Equations). length s.cells) (c.in_ok-bind.ensures.ok ∙ ap (λ s. with_binding s c.links.last c.in_ok-next.next) c.in_ok-next.ensures.ok) in
    record {
      free = stays_free c.links.store c.fresh.new.self c.bind.new.self c.links.last c.in_ok-next.next c.in_ok-bind.ensures.ok c.in_ok-next.ensures.place
          c.in_ok-next.ensures.gains.free c.links.invariant.free;
      grows = omega (arith, more, c.links.invariant.grows, length_push c.links.store.cells Variable);
    }

pub returns-in_err-bind : goal.returns-in_err-bind
returns-in_err-bind c =
    let same = ap (λ (s : Equations). length s.cells) (c.in_err-bind.ensures.err ∙ c.in_ok-next.ensures.ok) in
    omega (arith, same, c.links.invariant.grows, length_push c.links.store.cells Variable)

pub returns-in_err-next : goal.returns-in_err-next
returns-in_err-next c =
    let same = ap (λ (s : Equations). length s.cells) c.in_err-next.ensures.err in
    omega (arith, same, c.links.invariant.grows)
