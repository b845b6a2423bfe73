-- Variables that were bound, and those that are free.
use Rattle.std.proofs.Common.{◌≡◌, ℕ, ◌-◌, inl, inr, List, [], ◌∷◌, ◌++◌, length, map, reverse, take, drop, Option, Some, None, slice_get, refl, sym, ◌∙◌, ap, ap₂, subst, arith}
use Rattle.std.specs.Prelude.{Contains}
use Rattle.std.proofs.lemmas.List.{length-map, length-drop, length-reverse, map-append, reverse-append, reverse-reverse, take_all}
use Rattle.std.proofs.lemmas.List.Elements.{Contains-append_left, Contains-push, Contains-push_cases}
use Rattle.std.proofs.Math.Seq.{drop-append_seam}
use Rattle.indexmap.proofs.ReorderLemmas.{map-reverse}
use Rattle.pm_store.specs.Entries.{Entry, Variable}
use Rattle.pm_store.specs.Equations.{Binding, Equations, target_of, IsFree}
use Rattle.pm_store.specs.Marks.{Counts, counts_of, IsLater, bound_since}
use Rattle.pm_store.specs.Laws.{BoundVariablesStay, BoundSinceTells}
use Rattle.pm_store.specs.Inside.Stored.{binding_at, bindings_of}
use Rattle.pm_store.proofs.ListLemmas.{if_other, slice_get-append}
use Rattle.pm_store.proofs.NumberLemmas.{Contains-none}
use Rattle.pm_store.proofs.TreeLemmas.{unbound_in_tail}
use Rattle.pm_store.proofs.MarkLemmas.{marks_restore}

-- the variables of bindings, in the order in which these were made
abbrev pub in_order : List Binding → List ℕ
in_order bs = map (λ b. b.variable) (reverse bs)

in_order-append : (xs ys : List Binding) → in_order (xs ++ ys) ≡ in_order ys ++ in_order xs
in_order-append xs ys = ap (map (λ b. b.variable)) (reverse-append xs ys) ∙ map-append (λ b. b.variable) (reverse ys) (reverse xs)

in_order-next : (b : Binding) (bs : List Binding) → in_order (b ∷ bs) ≡ in_order bs ++ b.variable ∷ []
in_order-next b bs = in_order-append (b ∷ []) bs

length-in_order : (bs : List Binding) → length (in_order bs) ≡ length bs
length-in_order bs = length-map (reverse bs) (λ b. b.variable) ∙ length-reverse bs

-- what is kept of bindings has their variables in order
pub in_order-stored : (targets : List (Option ℕ)) (trail : List ℕ) → in_order (bindings_of targets trail) ≡ trail
in_order-stored targets trail =
    ap (map (λ b. b.variable)) (sym (map-reverse (binding_at targets) (reverse trail)) ∙ ap (map (binding_at targets)) (reverse-reverse trail))
    ∙ variables_at trail
  where
    variables_at : (vs : List ℕ) → map (λ b. b.variable) (map (binding_at targets) vs) ≡ vs
    variables_at [] = refl
    variables_at (v ∷ vs) = ap (λ us. v ∷ us) (variables_at vs)

-- a variable that isn't bound after further bindings was in none of them
unbound_before : (more bs : List Binding) (v : ℕ) → target_of (more ++ bs) v ≡ None → target_of bs v ≡ None
unbound_before [] bs v unbound = unbound
unbound_before (b ∷ more) bs v unbound = unbound_before more bs v (unbound_in_tail b (more ++ bs) v unbound).1

not_among : (more bs : List Binding) (v : ℕ) → target_of (more ++ bs) v ≡ None → ¬ Contains (in_order more) v
not_among [] bs v unbound among = Contains-none v among
not_among (b ∷ more) bs v unbound among =
    let rest = unbound_in_tail b (more ++ bs) v unbound in
    elim (Contains-push_cases (in_order more) b.variable v (subst (λ (vs : List ℕ). Contains vs v) (in_order-next b more) among)) [
      | inl before ↦ not_among more bs v rest.1 before
      | inr last ↦ rest.0 last
    ]

unbound_still : (more bs : List Binding) (v : ℕ) → ¬ Contains (in_order more) v → target_of bs v ≡ None → target_of (more ++ bs) v ≡ None
unbound_still [] bs v apart unbound = unbound
unbound_still (b ∷ more) bs v apart unbound =
    let among : Contains (in_order more ++ b.variable ∷ []) v → ⊥ = λ has. apart (subst (λ (vs : List ℕ). Contains vs v) (sym (in_order-next b more)) has) in
    if_other b.variable v (Some b.target) (target_of (more ++ bs) v)
    (λ same. among (subst (λ (n : ℕ). Contains (in_order more ++ b.variable ∷ []) n) same (Contains-push (in_order more) b.variable)))
    ∙ unbound_still more bs v (λ has. among (Contains-append_left (in_order more) (b.variable ∷ []) v has)) unbound

pub bound_variables_stay : BoundVariablesStay
bound_variables_stay s after v t later free =
    let b : Binding = record { variable = v; target = t } in
    let unbound : target_of (later.bindings.0 ++ (b ∷ s.bindings)) v ≡ None = ap (λ (bs : List Binding). target_of bs v) (sym later.bindings.1) ∙ free.unbound in
    (unbound_in_tail b s.bindings v (unbound_before later.bindings.0 (b ∷ s.bindings) v unbound)).0 refl

bound_since-later : (s before : Equations) (mark : Counts) (later : IsLater before s) → mark ≡ counts_of before → bound_since s mark ≡ in_order later.bindings.0
bound_since-later s before mark later counts =
    ap₂ drop (ap (λ (m : Counts). m.bindings) counts ∙ sym (length-in_order before.bindings))
    (ap in_order later.bindings.1 ∙ in_order-append later.bindings.0 before.bindings)
    ∙ drop-append_seam (in_order before.bindings) (in_order later.bindings.0)

pub bound_since_tells : BoundSinceTells
bound_since_tells s mark v has free =
    let more : List Binding = has.later.bindings.0 in
    let was : IsFree has.before v = subst (λ (e : Equations). IsFree e v) (marks_restore has.before s mark has.later has.counts) free in
    let since : bound_since s mark ≡ in_order more = bound_since-later s has.before mark has.later has.counts in
    let variable : slice_get s.cells v ≡ Some Variable =
    ap (λ (es : List Entry). slice_get es v) has.later.cells.1 ∙ slice_get-append has.before.cells has.later.cells.0 v Variable was.variable in (
      λ now among.
          not_among more has.before.bindings v (ap (λ (bs : List Binding). target_of bs v) (sym has.later.bindings.1) ∙ now.unbound)
          (subst (λ (vs : List ℕ). Contains vs v) since among),
      λ apart. record {
        variable = variable;
        unbound = ap (λ (bs : List Binding). target_of bs v) has.later.bindings.1
            ∙ unbound_still more has.before.bindings v (λ among. apart (subst (λ (vs : List ℕ). Contains vs v) (sym since) among)) was.unbound;
      },
    )

-- what a part of a list from a number on is
pub rest_is : (all trail : List ℕ) (n : ℕ) → all ≡ trail → take (length all - n) (drop n all) ≡ drop n trail
rest_is all trail n same =
    take_all (length all - n) (drop n all) (omega (arith, length-drop n all)) ∙ ap (drop n) same
