-- What the lanes of a vector say of four places.
use Rattle.std.specs.Prelude.{◌≡◌, ℕ, ◌+◌, ◌<◌, Bool, ◌==◌, List, length, slice_index}

-- of a vector with one lane for each of four places from at on, the lanes are 0 whose place passes
-- the test
pub record IsZeroWhere (test : ℕ → Bool) (at : ℕ) (vector : List ℕ) : Type 0 where
  pub long : length vector ≡ 4
  pub each : (k : ℕ) → k < 4 → (slice_index vector k == 0) ≡ test (at + k)
