-- What a search of the interval from a list to a bound answers.
use Rattle.std.specs.Prelude.{◌≡◌, ℕ, ◌≤◌, List}
use Rattle.pm_space.specs.Key.{Key}
use Rattle.pm_choice.specs.declared.Bound.{Bound}
use Rattle.pm_choice.specs.declared.Bound.TheVariants.{At}
use Rattle.pm_choice.specs.Order.{IsWithin}
use Rattle.pm_choice.specs.Entries.{Closes, Finds}
use Rattle.pm_search.specs.declared.Turn.{Turn}
use Rattle.pm_search.specs.declared.Turn.TheVariants.{Closed, Found, Paused}
use Rattle.pm_search.specs.Attempts.{IsAttempt, attempts_of}

-- `next` is an attempt of the interval. Below it the interval has so many attempts, and no complete
-- list.
pub record Pauses (key : Key) (from : List ℕ) (to : Bound) (next : List ℕ) (work : ℕ) : Type 0 where
  pub attempt : IsAttempt key next
  pub within : IsWithin from to next
  pub below : Closes (attempts_of key) from (At next) work

-- What a search answers that may make so many attempts of its interval, in all its turns: it pauses
-- only where it made them all.
abbrev pub IsTurn : Key → List ℕ → Bound → ℕ → Turn → Type 0
IsTurn key from to most (Closed work) = Closes (attempts_of key) from to work × (work ≤ most)
IsTurn key from to most (Found path work) =
    Finds (attempts_of key) from to path work × (work ≤ most)
IsTurn key from to most (Paused next work) = Pauses key from to next work × (work ≡ most)
