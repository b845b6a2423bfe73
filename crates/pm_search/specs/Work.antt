-- The work of a level: how many attempts its search takes.
use Rattle.std.specs.Prelude.{◌≡◌, ℕ, ◌≤◌, ◌⊎◌, List, []}
use Rattle.pm_space.specs.Key.{Key}
use Rattle.pm_choice.specs.declared.Bound.TheVariants.{End}
use Rattle.pm_choice.specs.Entries.{Closes, Finds, HasMore}
use Rattle.pm_search.specs.Attempts.{attempts_of}

-- The number of attempts of a level up to and with its first complete list, or of all where there
-- is no complete list.
abbrev pub IsWork : Key → ℕ → Type 0
IsWork key work =
    ((path : List ℕ) × Finds (attempts_of key) [] End path work)
    ⊎ Closes (attempts_of key) [] End work

-- the work of a level exceeds a budget: it is no number up to the budget
abbrev pub Exceeds : Key → ℕ → Type 0
Exceeds key budget = (work : ℕ) → work ≤ budget → ¬ IsWork key work

-- a level has one work at most
abbrev pub WorkIsUnique : Key → Type 0
WorkIsUnique key = (work other : ℕ) → IsWork key work → IsWork key other → work ≡ other

-- where more attempts than the budget have no complete list before them, the work exceeds it
abbrev pub MoreExceeds : Key → Type 0
MoreExceeds key = (budget : ℕ) → HasMore (attempts_of key) budget → Exceeds key budget
