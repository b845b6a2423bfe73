-- The space of the tests: lists up to a length of numbers from a least one on and below a branch.
-- The complete list is the last one of that length.
use Rattle.std.specs.Prelude.{◌≡◌, ℕ, ◌-◌, ◌<◌, ◌≤◌, List, length, All, nat_lt, if◌then◌else◌}
use Rattle.pm_space.specs.Key.{Key}

pub record IsInTree (branch depth least : ℕ) (list : List ℕ) : Type 0 where
  pub short : length list ≤ depth
  pub from : All (λ k. least ≤ k) list
  pub below : All (λ k. k < branch) list

pub record IsLastOfTree (branch depth : ℕ) (list : List ℕ) : Type 0 where
  pub long : length list ≡ depth
  pub last : All (λ k. k ≡ branch - 1) list

abbrev pub tree_width : ℕ → ℕ → List ℕ → ℕ
tree_width branch depth list = if nat_lt (length list) depth then branch else 0

abbrev pub tree_key : ℕ → ℕ → ℕ → Key
tree_key branch depth least = record {
  width = tree_width branch depth;
  reached = IsInTree branch depth least;
  complete = IsLastOfTree branch depth;
}
