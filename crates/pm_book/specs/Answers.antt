-- What the calls of a book answer.
use Rattle.std.specs.Prelude.{◌≡◌, ℕ, ◌<◌, ◌⊎◌, Bool, true, false, List, length, take, All, Contains, Option, Some, None, slice_get, ◌+◌, IsSome}
use Rattle.std.specs.List.{find}
use Rattle.pm_choice.specs.declared.Bound.TheVariants.{At}
use Rattle.pm_choice.specs.Order.{Precedes, PrecedesBound}
use Rattle.pm_book.specs.declared.event.Event.{Event}
use Rattle.pm_book.specs.declared.event.Event.TheVariants.{Took, Claimed, Split as SplitEvent, Found}
use Rattle.pm_book.specs.declared.ticket.Taken.{Taken}
use Rattle.pm_book.specs.declared.ticket.Taken.TheVariants.{Task, Idle, Over}
use Rattle.pm_book.specs.declared.ticket.Claimed.{Claimed as ClaimedAnswer}
use Rattle.pm_book.specs.declared.ticket.Claimed.TheVariants.{Task as ClaimedTask, Gone}
use Rattle.pm_book.specs.declared.ticket.SplitReply.{SplitReply}
use Rattle.pm_book.specs.declared.ticket.SplitReply.TheVariants.{Split, Unknown, OutOfRange}
use Rattle.pm_book.specs.declared.ticket.Ended.{Ended}
use Rattle.pm_book.specs.declared.ticket.Ended.TheVariants.{Kept, Dropped, Unknown as UnknownTicket}
use Rattle.pm_book.specs.declared.history.ReplayFault.{ReplayFault}
use Rattle.pm_book.specs.declared.history.ReplayFault.TheVariants.{Illegal, Memory}
use Rattle.pm_book.specs.Rows.{Row, BookState, Span, span_of, is_queued, is_running, is_above, is_open, spent}
use Rattle.pm_book.specs.Steps.{is_about, step, next, replayed, new_book, MakesBook}

-- The book is over where it has spent more than its budget, or no row is to be done.
abbrev pub IsBookOver : BookState → Type 0
IsBookOver book = (book.budget < spent book) ⊎ All (λ row. is_open book.best row ≡ false) book.rows

abbrev pub NoneQueued : BookState → Type 0
NoneQueued book = All (λ row. is_queued row.state ≡ false) book.rows

-- An event started a row, and a ticket names it.
pub record HasStarted (old : BookState) (event : Event) (ticket : Span) (new : BookState)
    : Type 0 where
  pub row : Row
  pub about : find (is_about event) old.rows ≡ Some row
  pub ticket_is : ticket ≡ span_of row
  pub step_is : step old event None ≡ Some new

-- what `take` answers
abbrev pub HasTaken : BookState → ℕ → BookState → Taken → Type 0
HasTaken old worker new Over = IsBookOver old × (new ≡ old)
HasTaken old worker new Idle = (¬ IsBookOver old) × NoneQueued old × (new ≡ old)
HasTaken old worker new (Task ticket) =
    (¬ IsBookOver old) × HasStarted old (Took worker ticket.number) ticket new

-- the row of a number is Queued
abbrev pub IsQueuedAt : BookState → ℕ → Type 0
IsQueuedAt book number =
    (row : Row) × Contains book.rows row × (row.number ≡ number) × (is_queued row.state ≡ true)

-- what `claim` answers
abbrev pub HasClaimed : BookState → ℕ → ℕ → BookState → ClaimedAnswer → Type 0
HasClaimed old number worker new Gone = (¬ IsQueuedAt old number) × (new ≡ old)
HasClaimed old number worker new (ClaimedTask ticket) =
    IsQueuedAt old number × HasStarted old (Claimed worker number) ticket new

-- a book knows a ticket where a Running row has the ticket's number and interval
abbrev pub Knows : BookState → Span → Type 0
Knows book ticket =
    (row : Row) × Contains book.rows row × (span_of row ≡ ticket) × (is_running row.state ≡ true)

-- a list is strictly between the ends of a ticket
abbrev pub IsInside : Span → List ℕ → Type 0
IsInside ticket list = Precedes ticket.from list × PrecedesBound list ticket.to

-- what `split` answers
abbrev pub HasSplit : BookState → Span → List ℕ → BookState → Span → SplitReply → Type 0
HasSplit old ticket mid new after Unknown =
    (¬ Knows old ticket) × (new ≡ old) × (after ≡ ticket)
HasSplit old ticket mid new after OutOfRange =
    Knows old ticket × (¬ IsInside ticket mid) × (new ≡ old) × (after ≡ ticket)
HasSplit old ticket mid new after (Split row) =
    Knows old ticket × IsInside ticket mid
    × (step old (SplitEvent ticket.number (length old.cuts)) (Some mid) ≡ Some new)
    × (row ≡ length old.rows) × (after ≡ record ticket { to = At mid })

-- what the end of a row answers, where it is this event with this list
abbrev pub HasEnded : BookState → Span → Event → Option (List ℕ) → BookState → Ended → Type 0
HasEnded old ticket event cut new (UnknownTicket back) =
    (¬ Knows old ticket) × (new ≡ old) × (back ≡ ticket)
HasEnded old ticket event cut new Dropped =
    Knows old ticket × (is_above old.best ticket.from ≡ true) × (step old event cut ≡ Some new)
HasEnded old ticket event cut new Kept =
    Knows old ticket × (is_above old.best ticket.from ≡ false) × (step old event cut ≡ Some new)

-- the first event that is no step is the one at this place
pub record IsFirstIllegal (budget : ℕ) (cuts : List (List ℕ)) (events : List Event) (place : ℕ)
    : Type 0 where
  pub event : Event
  pub there : slice_get events place ≡ Some event
  pub book : BookState
  pub legal : MakesBook budget cuts (take place events) book
  pub illegal : next cuts (Some book) event ≡ None

-- the events up to and with the one at this place, where there is one, are steps
abbrev pub AreSteps : ℕ → List (List ℕ) → List Event → ℕ → Type 0
AreSteps budget cuts events place =
    IsSome (replayed cuts (take (place + 1) events) (Some (new_book budget)))

-- Why a replay fails. Memory is short only for an event that is a step.
abbrev pub FailsBy : ℕ → List (List ℕ) → List Event → ReplayFault → Type 0
FailsBy budget cuts events (Illegal place) = IsFirstIllegal budget cuts events place
FailsBy budget cuts events Memory = (place : ℕ) × AreSteps budget cuts events place

abbrev pub is_find : Event → Bool
is_find (Found row cut work) = true
is_find event = false

-- no path was found in the history
abbrev pub NoneFound : BookState → Type 0
NoneFound book = All (λ event. is_find event ≡ false) book.events
