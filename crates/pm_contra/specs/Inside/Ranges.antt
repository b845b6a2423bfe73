-- Ranges of a list, each beginning where the one before it ends.
use Rattle.std.specs.Prelude.{◌≡◌, ℕ, zero, suc, ◌<◌, ◌≤◌, List, [], ◌∷◌, All, cond, length, nat_lt, slice_index}
use Rattle.std.specs.List.{slice_range}
use Rattle.pm_calculus.specs.Alternatives.{Head}

-- the ranges that end at these places, the first of them from a place on
abbrev pub ranges : {A : Type 0} → ℕ → List ℕ → List A → List (List A)
ranges from [] xs = []
ranges from (end ∷ ends) xs = slice_range xs from end ∷ ranges end ends xs

-- where a range begins, when the first begins at a place
abbrev pub start_from : ℕ → List ℕ → ℕ → ℕ
start_from from ends zero = from
start_from from ends (suc k) = slice_index ends k

-- where a range begins, when the first begins at 0; beyond the last there is an empty one, at 0
abbrev pub start_at : List ℕ → ℕ → ℕ
start_at ends k = cond (nat_lt k (length ends)) (start_from 0 ends k) 0

-- each range ends within so many, and not before it begins
abbrev pub AreRanges : List ℕ → ℕ → Type 0
AreRanges ends count =
    (k : ℕ) → k < length ends
    → (start_from 0 ends k ≤ slice_index ends k) × (slice_index ends k ≤ count)

-- the ranges are within the heads, and each of the four columns has a number for each head
pub record AreLaid (ends : List ℕ) (heads : List Head) (columns : List (List ℕ)) : Type 0 where
  pub within : AreRanges ends (length heads)
  pub four : length columns ≡ 4
  pub each : All (λ column. length column ≡ length heads) columns
