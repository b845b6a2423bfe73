-- Steps as the code has them, and what taking one answers.
use Rattle.std.specs.Prelude.{◌≡◌, ℕ, ◌<◌, List, [], ◌∷◌, ◌++◌, Option, Some, None, slice_get}
use Rattle.pm_logic.specs.Tableau.{Tableau}
use Rattle.pm_calculus.specs.Connection.{IsRegular, Level}
use Rattle.pm_calculus.specs.Skeleton as calculus
use Rattle.pm_calculus.specs.Alternatives.{alternatives}
use Rattle.pm_calculus.specs.Choices.{IsLabelling, HasLabelling}
use Rattle.pm_diseq.specs.Notes.{Note}
use Rattle.pm_machine.specs.Value.{MachineValue, IsTaken, skeleton}
use Rattle.pm_tab.specs.Searched.{Searched}
use Rattle.pm_tab.specs.StepLaws.{StartFits}
use Rattle.pm_tab.specs.Inside.Watched.{Watch, Watches, WatchesFor, GrewFrom}
use Rattle.pm_tab.specs.declared.alternatives.Step.{Step}
use Rattle.pm_tab.specs.declared.alternatives.Step.TheVariants.{Start, Extend, Reduce}
use Rattle.pm_tab.specs.declared.repeats.Watermark.{Watermark}

-- the step of the calculus
abbrev pub step_named : Step → calculus.Step
step_named (Start clause) = calculus.start clause
step_named (Extend clause literal) = calculus.extend clause literal
step_named (Reduce ancestor) = calculus.reduce ancestor

-- a start is the first step
abbrev pub StartsFirst : Step → MachineValue → Type 0
StartsFirst (Start clause) m = m.state.steps ≡ []
StartsFirst step m = Unit {0}

-- a start is with one of so many clauses
abbrev pub StartsAmong : ℕ → Step → Type 0
StartsAmong count (Start clause) = clause < count
StartsAmong count step = Unit {0}

-- a start builds what is within the level
abbrev pub StepFits : Searched → ℕ → Step → Type 0
StepFits searched level (Start clause) =
    StartFits searched.kind level (calculus.literals_at searched.problem.clauses clause)
StepFits searched level step = Unit {0}

-- how many clause instances a step gives
abbrev pub instances_given : calculus.Step → ℕ
instances_given (calculus.start clause) = 1
instances_given (calculus.extend clause literal) = 1
instances_given (calculus.reduce ancestor) = 0

-- at the level this is the alternative of some number
abbrev pub IsAlternative : Level → MachineValue → Step → Type 0
IsAlternative level m step =
    (k : ℕ) × (slice_get (alternatives level (skeleton m)) k ≡ Some (step_named step))

-- a pool's notes have grown from what they were
pub record GrewTo (pool new : List Note) : Type 0 where
  pub more : List Note
  pub is : new ≡ pool ++ more

-- what the machine's steps and one more build
abbrev pub built_with : MachineValue → Step → calculus.State
built_with m step = calculus.built m.problem.clauses (m.state.steps ++ step_named step ∷ [])

-- Where a step is taken, what is watched tells of the new nodes, and no branch has a literal twice.
-- Where it isn't, no labelling of what it would build is regular.
abbrev pub TakesRegularly : Step → MachineValue → MachineValue → Watch → Watch → Option Watermark
    → Type 0
TakesRegularly step old new watch grown (Some mark) =
    IsTaken (step_named step) old new × Watches old.problem.clauses new.state grown
    × GrewFrom mark watch grown
TakesRegularly step old new watch grown None =
    (new ≡ old) × (grown ≡ watch)
    × ((tableau : Tableau) → IsLabelling old.problem.clauses (built_with old step) tableau
    → ¬ IsRegular tableau)

-- where a step is taken, what was built has a labelling at the level, and else it would have none
abbrev pub TakesWithin : Level → Step → MachineValue → MachineValue → Watch → Watch
    → Option Watermark → Type 0
TakesWithin level step old new watch grown (Some mark) =
    IsTaken (step_named step) old new × HasLabelling level (built_with old step)
    × WatchesFor level.class level.problem.clauses new.state grown × GrewFrom mark watch grown
TakesWithin level step old new watch grown None =
    (new ≡ old) × (grown ≡ watch) × ¬ HasLabelling level (built_with old step)
