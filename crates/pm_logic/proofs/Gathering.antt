-- Lists that gather elements, each once.
use Rattle.std.proofs.Common.{◌≡◌, ℕ, zero, suc, ◌+◌, ◌≤◌, ◌⊎◌, List, [], ◌∷◌, ◌++◌, length, Some, refl, sym, ap, subst, ◌∙◌, append_assoc, arith, inl, inr}
use Rattle.std.specs.Prelude.{All, Contains, slice_get}
use Rattle.std.proofs.lemmas.List.{append-nil, length-append, length_push}
use Rattle.std.proofs.lemmas.List.Elements.{All-head, All-tail, All-push}
use Rattle.pm_logic.specs.Lists.{AreDistinct, Gathers}
use Rattle.pm_logic.proofs.ListLemmas.{AreDistinct-push}

-- new is old with more elements after it
abbrev pub Extends : {A : Type 0} → List A → List A → Type 0
Extends {A} old new = (more : List A) × (new ≡ old ++ more)

pub Extends-refl : {A : Type 0} (xs : List A) → Extends xs xs
Extends-refl xs = ([], sym (append-nil xs))

pub Extends-trans : {A : Type 0} (a b c : List A) → Extends a b → Extends b c → Extends a c
Extends-trans a b c first second =
    (first.0 ++ second.0, second.1 ∙ ap (λ s. s ++ second.0) first.1 ∙ append_assoc a first.0 second.0)

pub slice_get-extends : {A : Type 0} (old new : List A) → Extends old new → (i : ℕ) (x : A) → slice_get old i ≡ Some x → slice_get new i ≡ Some x
slice_get-extends old new extends i x e = rw extends.1 (front old extends.0 i x e)
  where
    front : {A : Type 0} (xs ys : List A) (i : ℕ) (x : A) → slice_get xs i ≡ Some x → slice_get (xs ++ ys) i ≡ Some x
    front [] ys zero x e = absurd cc
    front [] ys (suc i) x e = absurd cc
    front (y ∷ xs) ys zero x e = e
    front (y ∷ xs) ys (suc i) x e = front xs ys i x e

pub Extends-length : {A : Type 0} (old new : List A) → Extends old new → length old ≤ length new
Extends-length old new h = omega (arith, ap length h.1, length-append old h.0)

-- one element was there, or became the last
pub Gathers-one : {A : Type 0} (old new : List A) (x : A) → ((new ≡ old) × Contains old x) ⊎ ((new ≡ old ++ x ∷ []) × (¬ Contains old x)) → Gathers old (x ∷ []) new
Gathers-one old new x (inl same) = inl (same.1, sym same.0)
Gathers-one old new x (inr more) = inr (more.1, sym more.0)

pub Gathers-append : {A : Type 0} (xs ys a b c : List A) → Gathers a xs b → Gathers b ys c → Gathers a (xs ++ ys) c
Gathers-append [] ys a b c first second = subst (λ s. Gathers s ys c) (sym first) second
Gathers-append (x ∷ xs) ys a b c (inl h) second = inl (h.0, Gathers-append xs ys a b c h.1 second)
Gathers-append (x ∷ xs) ys a b c (inr h) second = inr (h.0, Gathers-append xs ys (a ++ x ∷ []) b c h.1 second)

pub Gathers-extends : {A : Type 0} (xs old new : List A) → Gathers old xs new → Extends old new
Gathers-extends [] old new h = subst (λ s. Extends old s) h (Extends-refl old)
Gathers-extends (x ∷ xs) old new (inl h) = Gathers-extends xs old new h.1
Gathers-extends (x ∷ xs) old new (inr h) = Extends-trans old (old ++ x ∷ []) new (x ∷ [], refl) (Gathers-extends xs (old ++ x ∷ []) new h.1)

pub Gathers-length : {A : Type 0} (xs old new : List A) → Gathers old xs new → length new ≤ length old + length xs
Gathers-length [] old new h = omega (arith, ap length h)
Gathers-length (x ∷ xs) old new (inl h) = omega (arith, Gathers-length xs old new h.1)
Gathers-length (x ∷ xs) old new (inr h) = omega (arith, Gathers-length xs (old ++ x ∷ []) new h.1, length_push old x)

pub Gathers-all : {A : Type 0} (P : A → Type 0) (xs old new : List A) → Gathers old xs new → All P old → All P xs → All P new
Gathers-all P [] old new h old_all all = subst (All P) h old_all
Gathers-all P (x ∷ xs) old new (inl h) old_all all = Gathers-all P xs old new h.1 old_all (All-tail P x xs all)
Gathers-all P (x ∷ xs) old new (inr h) old_all all = Gathers-all P xs (old ++ x ∷ []) new h.1 (All-push P old x old_all (All-head P x xs all)) (All-tail P x xs all)

-- what is gathered stands once
pub Gathers-distinct : {A : Type 0} (xs old new : List A) → AreDistinct old → Gathers old xs new → AreDistinct new
Gathers-distinct [] old new once h = subst (λ ys. AreDistinct ys) h once
Gathers-distinct (x ∷ xs) old new once (inl h) = Gathers-distinct xs old new once h.1
Gathers-distinct (x ∷ xs) old new once (inr h) = Gathers-distinct xs (old ++ x ∷ []) new (AreDistinct-push old x once h.0) h.1

-- and it is determined
pub Gathers-same : {A : Type 0} (xs old new other : List A) → Gathers old xs new → Gathers old xs other → new ≡ other
Gathers-same [] old new other is there = sym is ∙ there
Gathers-same (x ∷ xs) old new other (inl h) (inl k) = Gathers-same xs old new other h.1 k.1
Gathers-same (x ∷ xs) old new other (inl h) (inr k) = absurd (k.0 h.0)
Gathers-same (x ∷ xs) old new other (inr h) (inl k) = absurd (h.0 k.0)
Gathers-same (x ∷ xs) old new other (inr h) (inr k) = Gathers-same xs (old ++ x ∷ []) new other h.1 k.1
