-- What is known of things that were gone into once, from those that are pending.
use Rattle.std.specs.Prelude.{◌≡◌, ℕ, suc, ◌<◌, ◌⊎◌, Bool, true, false, List, [], ◌∷◌, ◌++◌, All, Contains}

module _ {A : Type 0} where
  -- a thing that counts as new may be noted, as the last one; any other was noted before
  abbrev pub Notes : List A → List A → A → Bool → Type 0
  Notes before after x true = (after ≡ before) ⊎ (after ≡ before ++ x ∷ [])
  Notes before after x false = (after ≡ before) × Contains before x

  -- those of size below a number have a property
  abbrev pub HoldBelow : (A → ℕ) → (A → Type 0) → ℕ → List A → Type 0
  HoldBelow size_of holds n xs = All (λ x. size_of x < n → holds x) xs

  -- each thing gone into has the property if those smaller than it, pending or gone into, have it
  abbrev pub IsSupported : (A → ℕ) → (A → Type 0) → List A → List A → Type 0
  IsSupported size_of holds pending entered = (n : ℕ) → HoldBelow size_of holds n pending
      → HoldBelow size_of holds n entered
      → HoldBelow size_of holds (suc n) entered
