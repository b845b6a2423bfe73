-- A row that is being searched: what a worker holds of it.
use Rattle.std.specs.Prelude.{◌≡◌, ℕ, ◌≤◌, false, List, Option, MatchOption}
use Rattle.pm_space.specs.Key.{Key}
use Rattle.pm_choice.specs.declared.Bound.{Bound}
use Rattle.pm_choice.specs.declared.Bound.TheVariants.{At}
use Rattle.pm_choice.specs.Order.{PrecedesBound, IsWithin}
use Rattle.pm_choice.specs.Entries.{Closes}
use Rattle.pm_search.specs.Attempts.{attempts_of}
use Rattle.pm_search.specs.Standing.{Standing, Searches}
use Rattle.pm_book.specs.Rows.{Span}
use Rattle.pm_work.specs.declared.worker.Next.{Next}
use Rattle.pm_work.specs.declared.worker.Next.TheVariants.{GoOn}

-- a place of an interval below which so many attempts were made, and no list is complete
pub record IsDoneTo (key : Key) (from : List ℕ) (to : Bound) (done : ℕ) (at : List ℕ)
    : Type 0 where
  pub within : IsWithin from to at
  pub closes : Closes (attempts_of key) from (At at) done

-- A worker holds a ticket with copies of its ends, and the place where its search paused last.
pub record IsHeld (key : Key) (ticket : Span) (from : List ℕ) (to : Bound) (at : Option (List ℕ))
    (done : ℕ) : Type 0 where
  pub interval : PrecedesBound ticket.from ticket.to
  pub from_is : from ≡ ticket.from
  pub to_is : to ≡ ticket.to
  pub done_to : MatchOption at (Unit {0}) (IsDoneTo key ticket.from ticket.to done)

-- a search of the ticket's interval goes on
pub record IsSearching {S : Type 0} (ticket : Span) (search : Standing S) : Type 0 where
  pub interval : Searches ticket.from ticket.to search
  pub unanswered : search.answered ≡ false

-- a search has paused after so many attempts
pub record IsPaused {S : Type 0} (worked : ℕ) (search : Standing S) (at : Option (List ℕ))
    (done : ℕ) : Type 0 where
  pub worked_is : search.worked ≡ worked
  pub done_is : done ≡ worked
  pub next_is : at ≡ search.next

-- a worker that goes on has made no more attempts in its row than the budget
abbrev pub IsWithinBudget : ℕ → ℕ → Next → Type 0
IsWithinBudget budget worked GoOn = worked ≤ budget
IsWithinBudget budget worked next = Unit {0}
