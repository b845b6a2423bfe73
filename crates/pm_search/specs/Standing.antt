-- How a search stands between its turns.
use Rattle.std.specs.Prelude.{◌≡◌, ℕ, Bool, true, false, List, Option, Some, MatchOption}
use Rattle.pm_space.specs.Key.{Key}
use Rattle.pm_choice.specs.declared.Bound.{Bound}
use Rattle.pm_choice.specs.Entries.{Closes}
use Rattle.pm_search.specs.declared.Turn.{Turn}
use Rattle.pm_search.specs.declared.Turn.TheVariants.{Closed, Found, Paused}
use Rattle.pm_search.specs.Attempts.{attempts_of}
use Rattle.pm_search.specs.Turns.{Pauses}

-- A search of the interval from a list to a bound: its space, the next attempt where one is left,
-- the number of attempts made, and whether it has answered Closed or Found.
pub record Standing (S : Type 0) : Type 0 where
  pub space : S
  pub from : List ℕ
  pub to : Bound
  pub next : Option (List ℕ)
  pub worked : ℕ
  pub answered : Bool

-- The number of attempts made is that of the interval below the next attempt, and no list there is
-- complete. Where no attempt is left, the same of the whole interval.
abbrev pub IsAhead : {S : Type 0} → Key → Standing S → Type 0
IsAhead key search =
    MatchOption search.next
    (Closes (attempts_of key) search.from search.to search.worked)
    (λ next. Pauses key search.from search.to next search.worked)

-- how a search with this path stands after an answer
abbrev pub StandsAfter : {S : Type 0} → Turn → Standing S → List ℕ → Type 0
StandsAfter (Closed work) search path = (search.worked ≡ work) × (search.answered ≡ true)
StandsAfter (Found found work) search path =
    (search.worked ≡ work) × (search.answered ≡ true) × (path ≡ found)
StandsAfter (Paused next work) search path =
    (search.worked ≡ work) × (search.answered ≡ false) × (search.next ≡ Some next)

-- the interval of a search is the one from this list to this bound
pub record Searches {S : Type 0} (from : List ℕ) (to : Bound) (search : Standing S) : Type 0 where
  pub starts : search.from ≡ from
  pub ends : search.to ≡ to
