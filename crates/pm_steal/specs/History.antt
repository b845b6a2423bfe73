-- What threads do to a deque of numbers, and the rule that every step keeps.
use Rattle.std.specs.Prelude.{◌≡◌, ℕ, ◌+◌, ◌≤◌, Bool, true, false, ◌==◌, List, [], ◌∷◌, ◌++◌, length, map, filter, count_by, sum_by, slice_index_or, Contains}
use Rattle.pm_steal.specs.declared.steps.Step.{Step}
use Rattle.pm_steal.specs.declared.steps.Step.TheVariants.{Push, Pop, Steal}

-- one step makes the new list of the old one: a push appends, a pop takes the last, a steal takes
-- the first
abbrev pub Makes : List ℕ → Step → List ℕ → Type 0
Makes old (Push x) new = new ≡ old ++ x ∷ []
Makes old (Pop x) new = old ≡ new ++ x ∷ []
Makes old (Steal x) new = old ≡ x ∷ new

-- a step, and the number of the thread that took it
pub record Turn : Type 0 where
  pub thread : ℕ
  pub step : Step

-- these turns, one after another, lead from one list to the other
abbrev pub LeadsTo : List ℕ → List Turn → List ℕ → Type 0
LeadsTo old [] new = new ≡ old
LeadsTo old (turn ∷ turns) new = (next : List ℕ) × Makes old turn.step next × LeadsTo next turns new

-- the steps of one thread, in its order
abbrev pub steps_of : ℕ → List Turn → List Step
steps_of thread turns = map (λ turn. turn.step) (filter (λ turn. turn.thread == thread) turns)

abbrev pub is_push : Step → Bool
is_push (Push y) = true
is_push (Pop y) = false
is_push (Steal y) = false

-- the step pushes x
abbrev pub pushes : ℕ → Step → Bool
pushes x (Push y) = y == x
pushes x (Pop y) = false
pushes x (Steal y) = false

-- the step takes x, at either end
abbrev pub takes : ℕ → Step → Bool
takes x (Push y) = false
takes x (Pop y) = y == x
takes x (Steal y) = y == x

-- The rule, of the numbers in a deque, the oldest first, and of each thread's steps. Each number
-- was pushed as often as it was taken or stands in the deque, and all steps together, in some
-- order, are turns that lead from the empty deque to this one.
pub record IsKept (items : List ℕ) (views : List (List Step)) : Type 0 where
  pub counted :
      (x : ℕ) → sum_by (count_by (pushes x)) views
      ≡ sum_by (count_by (takes x)) views + count_by (λ y. y == x) items
  pub ordered :
      (turns : List Turn) × LeadsTo [] turns items
      × ((thread : ℕ) → steps_of thread turns ≡ slice_index_or views thread [])

-- at one moment the rule held of at most so many numbers, and of these steps among the threads'
abbrev pub HeldAtMost : ℕ → List Step → Type 0
HeldAtMost most steps =
    (items : List ℕ) × (views : List (List Step)) × (length items ≤ most) × IsKept items views
    × Contains views steps
