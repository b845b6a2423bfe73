-- What always holds of a place in a space, now and before each choice of the path.
use Rattle.std.specs.Prelude.{◌≡◌, ℕ, List, [], ◌∷◌, ◌++◌, Some}
use Rattle.pm_calculus.specs.Connection.{Level}
use Rattle.pm_calculus.specs.Skeleton.{built, instances_built}
use Rattle.pm_calculus.specs.Alternatives.{steps_of}
use Rattle.pm_calculus.specs.Choices.{IsReached, width}
use Rattle.pm_machine.specs.State.{MachineState}
use Rattle.pm_machine.specs.Labels.{IsBuilt}
use Rattle.pm_tab.specs.declared.space.Frame.{Frame}
use Rattle.pm_tab.specs.Inside.Watched.{Watch, WatchesFor, unwatched, HasWatermark}

-- the choices of frames, the last frame first
abbrev pub path_of : List Frame → List ℕ
path_of [] = []
path_of (frame ∷ frames) = path_of frames ++ frame.choice ∷ []

-- the counts that are kept of a state
pub record Counts : Type 0 where
  pub width : ℕ
  pub instances : ℕ

-- a machine's state after the steps that a reached path names, with its counts and what is watched
pub record IsAt (level : Level) (path : List ℕ) (counts : Counts) (m : MachineState)
    (watch : Watch) : Type 0 where
  pub steps : steps_of level path ≡ Some m.steps
  pub reached : IsReached level path
  pub width : counts.width ≡ width level path
  pub instances : counts.instances ≡ instances_built (built level.problem.clauses m.steps)
  pub built : IsBuilt level.problem m
  pub watches : WatchesFor level.class level.problem.clauses m watch

abbrev pub counts_before : Frame → Counts
counts_before frame = record { width = frame.width; instances = frame.instances }

-- the state now and those before it, the last frame and the last state first, are each after a
-- prefix of the path
abbrev pub Stands : Level → List Frame → Counts → MachineState → List MachineState → Watch
    → Type 0
Stands level [] counts m [] watch = IsAt level [] counts m watch
Stands level (frame ∷ frames) counts m (before ∷ others) watch =
    IsAt level (path_of (frame ∷ frames)) counts m watch × HasWatermark frame.mark watch
    × Stands level frames (counts_before frame) before others (unwatched frame.mark watch)
Stands level frames counts m others watch = ⊥
