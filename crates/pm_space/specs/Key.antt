-- What a space of choice lists is, apart from any code: its key.
use Rattle.std.specs.Prelude.{◌≡◌, ℕ, ◌<◌, ◌↔◌, List, [], ◌∷◌, ◌++◌}

-- How many alternatives come after a choice list, which lists are reached, and which are complete.
pub record Key : Type 1 where
  pub width : List ℕ → ℕ
  pub reached : List ℕ → Type 0
  pub complete : List ℕ → Type 0

-- Two keys are the same where they say the same of each list.
pub record Agree (key other : Key) : Type 0 where
  pub width : (choices : List ℕ) → key.width choices ≡ other.width choices
  pub reached : (choices : List ℕ) → key.reached choices ↔ other.reached choices
  pub complete : (choices : List ℕ) → key.complete choices ↔ other.complete choices

-- The laws of every key. A complete list is reached, isn't empty and has no alternatives after it.
-- Each prefix of a reached list is reached, and each of its numbers is an alternative of its place.
pub record IsKey (key : Key) : Type 0 where
  pub complete_reached : (choices : List ℕ) → key.complete choices → key.reached choices
  pub complete_chosen : key.complete [] → ⊥
  pub complete_ends : (choices : List ℕ) → key.complete choices → key.width choices ≡ 0
  pub prefix :
      (choices : List ℕ) (choice : ℕ) → key.reached (choices ++ choice ∷ []) → key.reached choices
  pub below :
      (choices : List ℕ) (choice : ℕ) → key.reached (choices ++ choice ∷ [])
      → choice < key.width choices
