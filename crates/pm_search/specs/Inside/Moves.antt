-- What one move of a search gives: a pause, or an attempt.
use Rattle.std.specs.Prelude.{◌≡◌, ℕ, true, false, List, ◌+◌, Option, Some, None}
use Rattle.pm_space.specs.Key.{Key}
use Rattle.pm_choice.specs.Entries.{Closes, Finds}
use Rattle.pm_search.specs.declared.Turn.{Turn}
use Rattle.pm_search.specs.declared.Turn.TheVariants.{Closed, Found, Paused}
use Rattle.pm_search.specs.Attempts.{attempts_of}
use Rattle.pm_search.specs.Turns.{Pauses}
use Rattle.pm_search.specs.Standing.{Standing}

-- the answer of a search that stops where it stands
abbrev pub EndsTurn : {S : Type 0} → Key → Standing S → Turn → Type 0
EndsTurn key search (Closed work) =
    Closes (attempts_of key) search.from search.to work
    × (search.next ≡ None) × (work ≡ search.worked)
EndsTurn key search (Found path work) = ⊥
EndsTurn key search (Paused next work) =
    Pauses key search.from search.to next work
    × (search.next ≡ Some next) × (work ≡ search.worked)

-- what one attempt gives: the first complete list of the interval, or nothing
abbrev pub HasAttempted :
    {S : Type 0} → Key → Standing S → Standing S → List ℕ → Option (List ℕ) → Type 0
HasAttempted key old new path None = (new.worked ≡ old.worked + 1) × (new.answered ≡ false)
HasAttempted key old new path (Some found) =
    (new.worked ≡ old.worked + 1) × (new.answered ≡ true) × (path ≡ found)
    × Finds (attempts_of key) old.from old.to found new.worked
