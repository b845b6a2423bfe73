-- The toy space: lists of digits below a branch, up to a length. A full list is complete where it
-- reads as a goal.
use Rattle.std.specs.Prelude.{◌≡◌, ℕ, ◌+◌, ◌*◌, ◌<◌, ◌≤◌, List, [], ◌∷◌, length, All, nat_lt, if◌then◌else◌}
use Rattle.pm_space.specs.Key.{Key}

-- The value of a digit list that comes after digits of value `value`.
unfoldable pub value_after : ℕ → ℕ → List ℕ → ℕ
value_after branch value [] = value
value_after branch value (digit ∷ rest) = value_after branch (value * branch + digit) rest

-- What a digit list reads as in base `branch`, the highest digit first.
abbrev pub value_of : ℕ → List ℕ → ℕ
value_of branch list = value_after branch 0 list

-- The space reaches every list of at most `most` digits.
pub record IsInToy (branch most : ℕ) (list : List ℕ) : Type 0 where
  pub short : length list ≤ most
  pub below : All (λ digit. digit < branch) list

-- A complete list: as long as may be, and it reads as the goal.
pub record IsGoal (branch most goal : ℕ) (list : List ℕ) : Type 0 where
  pub inside : IsInToy branch most list
  pub full : length list ≡ most
  pub reads : value_of branch list ≡ goal

abbrev pub toy_width : ℕ → ℕ → List ℕ → ℕ
toy_width branch most list = if nat_lt (length list) most then branch else 0

abbrev pub toy_key : ℕ → ℕ → ℕ → Key
toy_key branch most goal = record {
  width = toy_width branch most;
  reached = IsInToy branch most;
  complete = IsGoal branch most goal;
}
