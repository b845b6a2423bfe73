-- The laws of attempts, for a key. Those of all entries hold of them, too.
use Rattle.std.specs.Prelude.{ℕ, List}
use Rattle.pm_space.specs.Key.{Key}
use Rattle.pm_search.specs.Attempts.{IsAttempt}

-- Each complete list is an attempt.
abbrev pub CompleteIsAttempt : Key → Type 0
CompleteIsAttempt key = (list : List ℕ) → key.complete list → IsAttempt key list
