-- The list at which the rest of an interval may be cut off for another search.
use Rattle.std.specs.Prelude.{◌≡◌, ℕ, ◌+◌, ◌<◌, ◌≤◌, List, [], ◌∷◌, ◌++◌, length, Option, Some, None}
use Rattle.pm_space.specs.Key.{Key}
use Rattle.pm_choice.specs.declared.Bound.{Bound}
use Rattle.pm_choice.specs.Order.{PrecedesBound}

-- The next attempt begins with a list and a choice, the alternative after this choice is there, and
-- the list with this alternative is below the bound.
pub record CutFits (key : Key) (to : Bound) (next list : List ℕ) (choice : ℕ) : Type 0 where
  pub begins : (rest : List ℕ) × (next ≡ list ++ choice ∷ rest)
  pub alternative : choice + 1 < key.width list
  pub below : PrecedesBound (list ++ (choice + 1) ∷ []) to

-- the shortest list that fits, followed by the alternative after its choice
pub record IsShortestCut (key : Key) (to : Bound) (next cut : List ℕ) : Type 0 where
  pub list : List ℕ
  pub choice : ℕ
  pub fits : CutFits key to next list choice
  pub is : cut ≡ list ++ (choice + 1) ∷ []
  pub shortest : (other : List ℕ) (j : ℕ) → CutFits key to next other j → length list ≤ length other

-- what a search at its next attempt, if any, answers for a cut
abbrev pub IsCut : Key → Bound → Option (List ℕ) → Option (List ℕ) → Type 0
IsCut key to None None = Unit {0}
IsCut key to None (Some cut) = ⊥
IsCut key to (Some next) None = (list : List ℕ) (choice : ℕ) → ¬ CutFits key to next list choice
IsCut key to (Some next) (Some cut) = IsShortestCut key to next cut
