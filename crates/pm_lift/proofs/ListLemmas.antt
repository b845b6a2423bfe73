-- The first places of what passes a test, and what stands in lists.
use Rattle.std.proofs.Common.{◌≡◌, ℕ, zero, suc, ◌+◌, ◌<◌, Bool, true, false, cond, not, List, [], ◌∷◌, ◌++◌, length, Some, slice_get, refl, sym, ◌∙◌, ap, arith}
use Rattle.std.specs.List.{prefix_len, position_or_len}

-- what stands before the first that fails passes, and where all before a place pass and it fails, it is the first
pub passes_before : {A : Type 0} (p : A → Bool) (xs : List A) (i : ℕ) (x : A) → i < prefix_len p xs → slice_get xs i ≡ Some x → p x ≡ true
passes_before p [] i x lt is = cc
passes_before p (y ∷ ys) i x lt is = by (p y) refl i (λ k less at. passes_before p ys k x less at) lt is
  where
    by : (b : Bool) → p y ≡ b → (i : ℕ) → ((k : ℕ) → k < prefix_len p ys → slice_get ys k ≡ Some x → p x ≡ true)
        → i < cond b (1 + prefix_len p ys) 0 → slice_get (y ∷ ys) i ≡ Some x → p x ≡ true
    by true py zero later lt is = let same : y ≡ x = cc in ap p (sym same) ∙ py
    by true py (suc i) later lt is = later i (omega (arith, lt)) is
    by false py i later lt is = absurd (omega (arith, lt))

pub first_failing : {A : Type 0} (p : A → Bool) (xs : List A) (i : ℕ) (x : A) → slice_get xs i ≡ Some x → p x ≡ false
    → ((k : ℕ) (y : A) → k < i → slice_get xs k ≡ Some y → p y ≡ true) → prefix_len p xs ≡ i
first_failing p [] i x is fails before = cc
first_failing p (y ∷ ys) zero x is fails before =
    let same : x ≡ y = cc in ap (λ b. cond b (1 + prefix_len p ys) 0) (ap p (sym same) ∙ fails)
first_failing p (y ∷ ys) (suc i) x is fails before =
    let rest : prefix_len p ys ≡ i = first_failing p ys i x is fails (λ k z lt at. before (suc k) z (omega (arith, lt)) at) in
    let one : 1 + prefix_len p ys ≡ suc i = omega (arith, rest) in
    ap (λ b. cond b (1 + prefix_len p ys) 0) (before zero y (omega arith) refl) ∙ one

-- where something passes, something passes at the first place
pub first_found : {A : Type 0} (p : A → Bool) (xs : List A) (i : ℕ) (x : A) → slice_get xs i ≡ Some x → p x ≡ true
    → (y : A) × (slice_get xs (position_or_len p xs) ≡ Some y) × (p y ≡ true)
first_found p [] i x is passes = cc
first_found {A} p (z ∷ zs) i x is passes = by (p z) refl i is (λ k at. first_found p zs k x at passes)
  where
    by : (b : Bool) → p z ≡ b → (i : ℕ) → slice_get (z ∷ zs) i ≡ Some x
        → ((k : ℕ) → slice_get zs k ≡ Some x → (y : A) × (slice_get zs (position_or_len p zs) ≡ Some y) × (p y ≡ true))
        → (y : A) × (slice_get (z ∷ zs) (cond (not b) (1 + position_or_len p zs) 0) ≡ Some y) × (p y ≡ true)
    by true pz i is later = (z, refl, pz)
    by false pz zero is later = let same : z ≡ x = cc in let fails : p x ≡ false = ap p (sym same) ∙ pz in let never : true ≡ false = sym passes ∙ fails in cc
    by false pz (suc i) is later =
        let h = later i is in
        let one : 1 + position_or_len p zs ≡ suc (position_or_len p zs) = omega arith in
        (h.0, ap (slice_get (z ∷ zs)) one ∙ h.1, h.2)

-- what stands in the two parts of a list
pub get_left : {A : Type 0} (xs ys : List A) (n : ℕ) → n < length xs → slice_get (xs ++ ys) n ≡ slice_get xs n
get_left [] ys n lt = absurd (omega (arith, lt))
get_left (x ∷ xs) ys zero lt = refl
get_left (x ∷ xs) ys (suc n) lt = get_left xs ys n (omega (arith, lt))

pub get_right : {A : Type 0} (xs ys : List A) (m n : ℕ) → n ≡ length xs + m → slice_get (xs ++ ys) n ≡ slice_get ys m
get_right [] ys m n is = let same : n ≡ m = omega (arith, is) in ap (slice_get ys) same
get_right (x ∷ xs) ys m zero is = absurd (omega (arith, is))
get_right (x ∷ xs) ys m (suc n) is = get_right xs ys m n (omega (arith, is))
