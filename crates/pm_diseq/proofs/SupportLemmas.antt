-- Sizes of things, and what is known of things that were gone into.
use Rattle.std.proofs.Common.{◌≡◌, ℕ, zero, suc, ◌+◌, ◌<◌, ◌≤◌, List, [], ◌∷◌, ◌++◌, get_or, arith}
use Rattle.std.specs.Prelude.{All}
use Rattle.std.proofs.lemmas.List.Elements.{All-nil, All-cons, All-push}
use Rattle.pm_store.proofs.ListLemmas.{All-left, All-right}
use Rattle.pm_diseq.specs.Inside.Support.{HoldBelow, IsSupported}

-- the sizes of all things together
abbrev pub total : {A : Type 0} → (A → ℕ) → List A → ℕ
total size_of [] = 0
total size_of (x ∷ xs) = size_of x + total size_of xs

pub total-append : {A : Type 0} (size_of : A → ℕ) (xs ys : List A) → total size_of (xs ++ ys) ≡ total size_of xs + total size_of ys
total-append size_of [] ys = omega arith
total-append size_of (x ∷ xs) ys = omega (arith, total-append size_of xs ys)

pub below_total : {A : Type 0} (size_of : A → ℕ) (xs : List A) (n : ℕ) → total size_of xs < n → All (λ x. size_of x < n) xs
below_total size_of [] n less = All-nil (λ x. size_of x < n)
below_total size_of (x ∷ xs) n less = All-cons (λ y. size_of y < n) x xs (omega (arith, less)) (below_total size_of xs n (omega (arith, less)))

module _ {A : Type 0} (size_of : A → ℕ) (holds : A → Type 0) where
  all_below : (entered : List A) → IsSupported size_of holds [] entered → (n : ℕ) → HoldBelow size_of holds n entered
  all_below entered supported zero = λ k d within less. absurd (omega (arith, less))
  all_below entered supported (suc n) = supported n (All-nil (λ x. size_of x < n → holds x)) (all_below entered supported n)

  -- where nothing is pending, all that was gone into has the property
  pub all_supported : (entered : List A) → IsSupported size_of holds [] entered → All holds entered
  all_supported entered supported k d within =
      let n : ℕ = size_of (get_or entered k d) in
      let less : n < suc n = omega arith in
      all_below entered supported (suc n) k d within less

  -- things that give it the property take the place of a pending thing
  pub supported_turn : (rest parts entered : List A) (x : A)
      → ((n : ℕ) → HoldBelow size_of holds n parts → HoldBelow size_of holds n entered → size_of x < n → holds x)
      → IsSupported size_of holds (rest ++ x ∷ []) entered → IsSupported size_of holds (rest ++ parts) entered
  supported_turn rest parts entered x has supported n below_pending below_entered =
      let holds_below : A → Type 0 = λ y. size_of y < n → holds y in
      supported n
      (All-push holds_below rest x (All-left holds_below rest parts below_pending) (has n (All-right holds_below rest parts below_pending) below_entered))
      below_entered

  -- a thing is noted, to which pending things that are smaller give the property
  pub supported_enter : (pending entered : List A) (x : A)
      → ((n : ℕ) → size_of x ≤ n → HoldBelow size_of holds n pending → holds x)
      → IsSupported size_of holds pending entered → IsSupported size_of holds pending (entered ++ x ∷ [])
  supported_enter pending entered x has supported n below_pending below_entered =
      All-push (λ y. size_of y < suc n → holds y) entered x
      (supported n below_pending (All-left (λ y. size_of y < n → holds y) entered (x ∷ []) below_entered))
      (λ less. has n (omega (arith, less)) below_pending)
