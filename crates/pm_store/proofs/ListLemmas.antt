-- Entries of lists, and tests of equality.
use Rattle.std.proofs.Common.{◌≡◌, ℕ, zero, suc, ◌<◌, ◌⊎◌, inl, inr, ◌==◌, if◌then◌else◌, List, [], ◌∷◌, ◌++◌, length, map, Some, slice_get, true, false, not, true≢false, refl, sym, ◌∙◌, ap, ap₂}
use Rattle.std.specs.Prelude.{All}
use Rattle.std.proofs.lemmas.Bool.{eq-eqb, ne_eqb, cases_eq}
use Rattle.std.proofs.lemmas.List.Elements.{All-nil, All-cons, All-head, All-tail}

pub if_same : {A : Type 0} (m n : ℕ) (x y : A) → m ≡ n → (if m == n then x else y) ≡ x
if_same m n x y same = ap (λ b. if b then x else y) (eq-eqb m n same)

pub if_other : {A : Type 0} (m n : ℕ) (x y : A) → (m ≡ n → ⊥) → (if m == n then x else y) ≡ y
if_other m n x y other = ap (λ b. if b then x else y) (ne_eqb m n other)

-- two numbers by the test that they differ
pub same_from_test : (m n : ℕ) → not (m == n) ≡ false → m ≡ n
same_from_test m n is =
    elim (cases_eq m n) [
      | inl e ↦ e
      | inr ne ↦ absurd (true≢false (sym (ap not (ne_eqb m n ne)) ∙ is))
    ]

pub other_from_test : (m n : ℕ) → not (m == n) ≡ true → m ≡ n → ⊥
other_from_test m n is same = true≢false (sym is ∙ ap not (eq-eqb m n same))

-- what stands in a list stands in a longer one
pub slice_get-append : {A : Type 0} (xs ys : List A) (i : ℕ) (x : A) → slice_get xs i ≡ Some x → slice_get (xs ++ ys) i ≡ Some x
slice_get-append [] ys i x is = absurd cc
slice_get-append (y ∷ xs) ys zero x is = is
slice_get-append (y ∷ xs) ys (suc i) x is = slice_get-append xs ys i x is

pub slice_get-last : {A : Type 0} (xs : List A) (x : A) → slice_get (xs ++ x ∷ []) (length xs) ≡ Some x
slice_get-last [] x = refl
slice_get-last (y ∷ xs) x = slice_get-last xs x

-- what stands in a list with one more item stood there before, or is the new one
pub slice_get-push : {A : Type 0} (xs : List A) (y : A) (i : ℕ) (x : A) → slice_get (xs ++ y ∷ []) i ≡ Some x
    → (slice_get xs i ≡ Some x) ⊎ ((i ≡ length xs) × (y ≡ x))
slice_get-push [] y zero x is = inr (refl, cc)
slice_get-push [] y (suc i) x is = absurd cc
slice_get-push (z ∷ xs) y zero x is = inl is
slice_get-push (z ∷ xs) y (suc i) x is =
    elim (slice_get-push xs y i x is) [
      | inl before ↦ inl before
      | inr last ↦ inr (ap suc last.0, last.1)
    ]

-- functions that agree below a number agree on a list of numbers below it
pub map_agree : {A : Type 0} (f g : ℕ → A) (n : ℕ) (ns : List ℕ) → ((m : ℕ) → m < n → f m ≡ g m) → All (λ m. m < n) ns → map f ns ≡ map g ns
map_agree f g n [] agree below = refl
map_agree f g n (m ∷ ms) agree below =
    ap₂ (λ x xs. x ∷ xs) (agree m (All-head (λ k. k < n) m ms below)) (map_agree f g n ms agree (All-tail (λ k. k < n) m ms below))

module _ {A : Type 0} (holds : A → Type 0) where
  pub All-left : (xs ys : List A) → All holds (xs ++ ys) → All holds xs
  All-left [] ys all = All-nil holds
  All-left (x ∷ xs) ys all = All-cons holds x xs (All-head holds x (xs ++ ys) all) (All-left xs ys (All-tail holds x (xs ++ ys) all))

  pub All-right : (xs ys : List A) → All holds (xs ++ ys) → All holds ys
  All-right [] ys all = all
  All-right (x ∷ xs) ys all = All-right xs ys (All-tail holds x (xs ++ ys) all)

  pub All-last : (xs : List A) (x : A) → All holds (xs ++ x ∷ []) → holds x
  All-last xs x all = All-head holds x [] (All-right xs (x ∷ []) all)
