-- What is known of things that were gone into once, from those that are pending.
use Rattle.std.specs.Prelude.{ℕ, suc, ◌<◌, List, All}

module _ {A : Type 0} where
  -- those of size below a number have a property
  abbrev pub HoldBelow : (A → ℕ) → (A → Type 0) → ℕ → List A → Type 0
  HoldBelow size_of holds n xs = All (λ x. size_of x < n → holds x) xs

  -- each thing gone into has the property if those smaller than it, pending or gone into, have it
  abbrev pub IsSupported : (A → ℕ) → (A → Type 0) → List A → List A → Type 0
  IsSupported size_of holds pending entered = (n : ℕ) → HoldBelow size_of holds n pending
      → HoldBelow size_of holds n entered
      → HoldBelow size_of holds (suc n) entered
