-- The answer of a search of levels: each level has a key.
use Rattle.std.specs.Prelude.{◌≡◌, ℕ, ◌+◌, ◌<◌, ◌≤◌, List, [], length, slice_index}
use Rattle.pm_space.specs.Key.{Key}
use Rattle.pm_choice.specs.declared.Bound.TheVariants.{End}
use Rattle.pm_choice.specs.Entries.{Closes, Finds}
use Rattle.pm_search.specs.Attempts.{attempts_of}
use Rattle.pm_search.specs.Work.{Exceeds}
use Rattle.pm_deepen.specs.declared.DeepEnd.{DeepEnd}
use Rattle.pm_deepen.specs.declared.DeepEnd.TheVariants.{Proof, DepthReached, BudgetOut}

-- so many levels are exhausted, each within the budget: these are their works
pub record AreExhausted (key_at : ℕ → Key) (budget : ℕ) (works : List ℕ) : Type 0 where
  pub closes :
      (level : ℕ) → level < length works
      → Closes (attempts_of (key_at level)) [] End (slice_index works level)
  pub within : (level : ℕ) → level < length works → slice_index works level ≤ budget

-- After so many exhausted levels the search of the levels up to a depth ends so: with the first
-- complete list of the next level and its work, at the depth, or because the next level's work
-- exceeds the budget.
abbrev pub EndsSo : (ℕ → Key) → ℕ → ℕ → ℕ → DeepEnd → Type 0
EndsSo key_at depth budget exhausted (Proof level path work) =
    (level ≡ exhausted) × (level ≤ depth)
    × Finds (attempts_of (key_at level)) [] End path work × (work ≤ budget)
EndsSo key_at depth budget exhausted DepthReached = exhausted ≡ depth + 1
EndsSo key_at depth budget exhausted (BudgetOut level) =
    (level ≡ exhausted) × (level ≤ depth) × Exceeds (key_at level) budget

-- The answer of a search of the levels up to a depth, with a budget for each: the works of the
-- exhausted levels from level 0 on, and how the search ends.
pub record IsAnswer (key_at : ℕ → Key) (depth budget : ℕ) (works : List ℕ) (end : DeepEnd)
    : Type 0 where
  pub few : length works ≤ depth + 1
  pub exhausted : AreExhausted key_at budget works
  pub ends : EndsSo key_at depth budget (length works) end

-- two answers are equal
abbrev pub AnswersAreEqual : (ℕ → Key) → ℕ → ℕ → Type 0
AnswersAreEqual key_at depth budget =
    (works others : List ℕ) (end other : DeepEnd)
    → IsAnswer key_at depth budget works end → IsAnswer key_at depth budget others other
    → (works ≡ others) × (end ≡ other)
