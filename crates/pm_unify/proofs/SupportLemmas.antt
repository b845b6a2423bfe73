-- Lists whose things have a property, and what is known of things that were gone into.
use Rattle.std.proofs.Common.{◌≡◌, ℕ, zero, suc, ◌+◌, ◌<◌, List, [], ◌∷◌, ◌++◌, get_or, arith}
use Rattle.std.specs.Prelude.{All, Contains}
use Rattle.std.proofs.lemmas.List.Elements.{All-nil, All-push, All-contains}
use Rattle.pm_store.proofs.ListLemmas.{All-left, All-right, All-last}
use Rattle.pm_unify.specs.Inside.Support.{HoldBelow, IsSupported}

-- the sizes of all things together
abbrev pub total : {A : Type 0} → (A → ℕ) → List A → ℕ
total size_of [] = 0
total size_of (x ∷ xs) = size_of x + total size_of xs

pub total-append : {A : Type 0} (size_of : A → ℕ) (xs ys : List A) → total size_of (xs ++ ys) ≡ total size_of xs + total size_of ys
total-append size_of [] ys = omega arith
total-append size_of (x ∷ xs) ys = omega (arith, total-append size_of xs ys)

module _ {A : Type 0} (size_of : A → ℕ) (holds : A → Type 0) where
  all_below : (entered : List A) → IsSupported size_of holds [] entered → (n : ℕ) → HoldBelow size_of holds n entered
  all_below entered supported zero = λ k d within less. absurd (omega (arith, less))
  all_below entered supported (suc n) = supported n (All-nil (λ x. size_of x < n → holds x)) (all_below entered supported n)

  -- where nothing is pending, all that was gone into has the property
  pub all_supported : (entered : List A) → IsSupported size_of holds [] entered → All holds entered
  all_supported entered supported k d within =
      let n : ℕ = size_of (get_or entered k d) in
      let less : n < suc n = omega arith in
      all_below entered supported (suc n) k d within less

  -- a pending thing that has the property where smaller ones that were gone into have it needs no place
  pub supported_drop : (rest entered : List A) (x : A) → ((n : ℕ) → HoldBelow size_of holds n entered → size_of x < n → holds x)
      → IsSupported size_of holds (rest ++ x ∷ []) entered → IsSupported size_of holds rest entered
  supported_drop rest entered x has supported n below_rest below_entered =
      supported n (All-push (λ y. size_of y < n → holds y) rest x below_rest (has n below_entered)) below_entered

  -- a thing may be passed over once it was gone into
  pub supported_again : (rest entered : List A) (x : A) → Contains entered x
      → IsSupported size_of holds (rest ++ x ∷ []) entered → IsSupported size_of holds rest entered
  supported_again rest entered x there supported =
      supported_drop rest entered x (λ n below less. All-contains (λ y. size_of y < n → holds y) entered x below there less) supported

  -- smaller things that give it the property take its place, and it isn't noted
  pub supported_open : (rest parts entered : List A) (x : A) → All (λ y. size_of y < size_of x) parts → (All holds parts → holds x)
      → IsSupported size_of holds (rest ++ x ∷ []) entered → IsSupported size_of holds (rest ++ parts) entered
  supported_open rest parts entered x smaller has supported n below_pending below_entered =
      let holds_below : A → Type 0 = λ y. size_of y < n → holds y in
      let in_parts : All holds_below parts = All-right holds_below rest parts below_pending in
      supported n
      (All-push holds_below rest x (All-left holds_below rest parts below_pending)
      (λ less. has (λ k d within. in_parts k d within (omega (arith, smaller k d within, less)))))
      below_entered

  -- so where it is noted
  pub supported_enter : (rest parts entered : List A) (x : A) → All (λ y. size_of y < size_of x) parts → (All holds parts → holds x)
      → IsSupported size_of holds (rest ++ x ∷ []) entered → IsSupported size_of holds (rest ++ parts) (entered ++ x ∷ [])
  supported_enter rest parts entered x smaller has supported n below_pending below_entered =
      let holds_below : A → Type 0 = λ y. size_of y < n → holds y in
      let itself : holds_below x = All-last holds_below entered x below_entered in
      let before : HoldBelow size_of holds n (rest ++ x ∷ []) = All-push holds_below rest x (All-left holds_below rest parts below_pending) itself in
      let in_parts : All holds_below parts = All-right holds_below rest parts below_pending in
      All-push (λ y. size_of y < suc n → holds y) entered x
      (supported n before (All-left holds_below entered (x ∷ []) below_entered))
      (λ less. has (λ k d within. in_parts k d within (omega (arith, smaller k d within, less))))
