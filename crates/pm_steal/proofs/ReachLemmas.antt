-- One grip of a reach gives way to another, or one hand of several.
use Rattle.std.proofs.Common.{◌≡◌, ℕ, ◌+◌, ◌<◌, List, [], ◌∷◌, ◌++◌, length, map, take, get_or, set, replicate, sym, ap, ◌∙◌, subst}
use Rattle.std.proofs.lemmas.List.{get_or-map, map-set, map-append, get_or-set_same, length-map, take_more, replicate_more}
use Rattle.pm_steal.specs.declared.deques.Stolen.{Stolen}
use Rattle.pm_steal.specs.declared.steps.Step.{Step}
use Rattle.pm_steal.specs.Shown.{HasCause}

module _ {A B : Type 0} (f : A → B) (l : List A) (i : ℕ) (old new : A) (inside : i < length l) (is_old : old ≡ get_or l i old) where
  pub at_old : (d : B) → get_or (map f l) i d ≡ f old
  at_old d = get_or-map f l i old d inside ∙ ap f (sym is_old)

  pub at_new : (d : B) → get_or (map f (set l i new)) i d ≡ f new
  at_new d = ap (λ m. get_or m i d) (map-set f l i new) ∙ get_or-set_same (map f l) i (f new) d (subst (λ n. i < n) (sym (length-map l f)) inside)

pub same_cause : (stolen : Stolen) {steps steps' : List Step} {before before' after after' : ℕ} → steps' ≡ steps → before' ≡ before → after' ≡ after
    → HasCause stolen steps before after → HasCause stolen steps' before' after'
same_cause stolen p q r = subst (λ (y : List Step × ℕ × ℕ). HasCause stolen y.0 y.1 y.2) (λ i. (sym p i, sym q i, sym r i))

-- one more element, whose value is the next of ys
pub map_push_next : {A B : Type 0} (f : A → B) (xs : List A) (x : A) (ys : List B) (i : ℕ) → map f xs ≡ take i ys → i < length ys → f x ≡ get_or ys i (f x)
    → map f (xs ++ x ∷ []) ≡ take (i + 1) ys
map_push_next f xs x ys i done inside next =
    map-append f xs (x ∷ []) ∙ (λ k. done k ++ next k ∷ []) ∙ sym (take_more ys i (f x) inside)

pub map_push_same : {A B : Type 0} (f : A → B) (xs : List A) (x : A) (y : B) (i : ℕ) → map f xs ≡ replicate i y → f x ≡ y
    → map f (xs ++ x ∷ []) ≡ replicate (i + 1) y
map_push_same f xs x y i done same = map-append f xs (x ∷ []) ∙ (λ k. done k ++ same k ∷ []) ∙ replicate_more i y
