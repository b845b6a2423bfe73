-- How the search of a level ends.
use Rattle.std.specs.Prelude.{◌≡◌, ℕ, ◌<◌, ◌≤◌, [], Some}
use Rattle.pm_space.specs.Key.{Key}
use Rattle.pm_choice.specs.declared.Bound.TheVariants.{End}
use Rattle.pm_choice.specs.Entries.{Closes, Finds}
use Rattle.pm_search.specs.Attempts.{attempts_of}
use Rattle.pm_search.specs.Work.{Exceeds}
use Rattle.pm_book.specs.Rows.{BookState}
use Rattle.pm_book.specs.Honest.{front_of, front_work, EndsFound}
use Rattle.pm_pool.specs.declared.level.LevelEnd.{LevelEnd}
use Rattle.pm_pool.specs.declared.level.LevelEnd.TheVariants.{Exhausted, Found, Over}

-- The search of a level with a budget: its work and, where there is one, its first complete list,
-- or that the work exceeds the budget.
abbrev pub EndsLevel : Key → ℕ → LevelEnd → Type 0
EndsLevel key budget (Exhausted work) = Closes (attempts_of key) [] End work × (work ≤ budget)
EndsLevel key budget (Found path work) = Finds (attempts_of key) [] End path work × (work ≤ budget)
EndsLevel key budget Over = Exceeds key budget

-- The end that a settled book says: the budget is exceeded where the work of its front is more;
-- else best is found where the front's last row was; else the level is exhausted.
abbrev pub IsEndOf : ℕ → BookState → LevelEnd → Type 0
IsEndOf budget book (Exhausted work) =
    (front_work book ≤ budget) × (¬ EndsFound (front_of book.rows)) × (work ≡ front_work book)
IsEndOf budget book (Found path work) =
    (front_work book ≤ budget) × EndsFound (front_of book.rows)
    × (book.best ≡ Some path) × (work ≡ front_work book)
IsEndOf budget book Over = budget < front_work book
