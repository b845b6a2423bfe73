-- The work of a level, and when it exceeds a budget.
use Rattle.std.proofs.Common.{ℕ, ◌<◌, List, [], arith, inl, inr}
use Rattle.pm_space.specs.Key.{Key}
use Rattle.pm_choice.specs.declared.Bound.TheVariants.{At, End}
use Rattle.pm_choice.proofs.EntryLemmas.{finds_once, closes_once, not_both, more_closed, more_than_closed, more_than_found}
use Rattle.pm_search.specs.Attempts.{attempts_of}
use Rattle.pm_search.specs.Turns.{Pauses}
use Rattle.pm_search.specs.Work.{IsWork, Exceeds, WorkIsUnique, MoreExceeds}

-- a level has one work at most
pub one_work : (key : Key) → WorkIsUnique key
one_work key m n (inl p) (inl q) = (finds_once (attempts_of key) p.0 q.0 m n p.1 q.1).1
one_work key m n (inl p) (inr q) = absurd (not_both (attempts_of key) p.0 m n p.1 q)
one_work key m n (inr p) (inl q) = absurd (not_both (attempts_of key) q.0 n m q.1 p)
one_work key m n (inr p) (inr q) = closes_once (attempts_of key) m n p q

pub more_exceeds : (key : Key) → MoreExceeds key
more_exceeds key budget has work few (inl found) = let more = more_than_found (attempts_of key) found.0 budget work has found.1 in omega arith
more_exceeds key budget has work few (inr closed) = let more = more_than_closed (attempts_of key) budget work has closed in omega arith

-- where a search of a level pauses after more attempts than the budget, the work exceeds it
pub pause_exceeds : (key : Key) (next : List ℕ) (made budget : ℕ) → Pauses key [] End next made → budget < made → Exceeds key budget
pause_exceeds key next made budget paused over = more_exceeds key budget (more_closed (attempts_of key) (At next) budget made paused.below over)

-- a work above the budget exceeds it
pub work_exceeds : (key : Key) (made budget : ℕ) → IsWork key made → budget < made → Exceeds key budget
work_exceeds key made budget is over work few other = let same = one_work key made work is other in omega (arith, same, few, over)
