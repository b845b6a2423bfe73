-- Nodes of one depth, and the place after the nodes below one.
use Rattle.std.specs.Prelude.{◌≡◌, ℕ, ◌+◌, ◌<◌, ◌≤◌, nat_lt, cond, List, [], ◌∷◌, length, map, slice_index}
use Rattle.pm_logic.specs.Tableau.{Entry}

-- the nodes at this depth that come before the first one above it
abbrev pub siblings : ℕ → List Entry → List Entry
siblings at_depth [] = []
siblings at_depth (e ∷ es) =
    cond (nat_lt e.depth at_depth)
    []
    (cond (nat_lt at_depth e.depth) (siblings at_depth es) (e ∷ siblings at_depth es))

abbrev pub depths : List Entry → List ℕ
depths entries = map (λ e. e.depth) entries

-- the next place with a node that doesn't lie below this one, or the place after the last node
pub record IsNextPlace (depths : List ℕ) (place next : ℕ) : Type 0 where
  pub after : place < next
  pub within : next ≤ length depths
  pub below :
      (k : ℕ) → place < k → k < next → slice_index depths place < slice_index depths k
  pub ends : next < length depths → slice_index depths next ≤ slice_index depths place

-- for each place the next one with a node that doesn't lie below
pub record AreNextPlaces (depths : List ℕ) (next : List ℕ) : Type 0 where
  pub count : length next ≡ length depths
  pub each : (k : ℕ) → k < length depths → IsNextPlace depths k (slice_index next k)

-- each node lies one deeper than the one before it at most, and the first so deep at most
abbrev pub AreSteps : ℕ → List ℕ → Type 0
AreSteps deepest [] = Unit {0}
AreSteps deepest (d ∷ ds) = (d ≤ deepest) × AreSteps (d + 1) ds
