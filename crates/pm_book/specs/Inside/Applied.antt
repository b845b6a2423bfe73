-- What an event of a history makes of a book.
use Rattle.std.specs.Prelude.{◌≡◌, ℕ, Bool, true, false, List, Option, Some, None}
use Rattle.pm_book.specs.declared.event.Event.{Event}
use Rattle.pm_book.specs.Rows.{BookState}
use Rattle.pm_book.specs.Steps.{step}

-- whether an event was a step, and what it left
abbrev pub HasApplied : BookState → Event → Option (List ℕ) → BookState → Bool → Type 0
HasApplied old event cut new true = step old event cut ≡ Some new
HasApplied old event cut new false = step old event cut ≡ None
