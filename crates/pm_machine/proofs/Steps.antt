-- Steps of every kind, taken or failed.
use Rattle.std.proofs.Common.{◌≡◌, ℕ, List, Option, Some, None, IsSomeAnd, refl, sym, subst}
use Rattle.pm_logic.specs.Problem.{Clause, Problem, IsValid}
use Rattle.pm_calculus.specs.Skeleton.{State, empty, rooted, start, extend, reduce, Subgoal, selected, built}
use Rattle.pm_calculus.specs.Alternatives.{IsStepAt, MayTake}
use Rattle.pm_machine.specs.State.{MachineState}
use Rattle.pm_machine.specs.Labels.{IsBuilt}
use Rattle.pm_machine.specs.Taken.{Starts}
use Rattle.pm_machine.specs.Laws.{StepsBuild, FailedStepsLabelNothing, LeavesMayStep}
use Rattle.pm_machine.proofs.Starting.{start_builds}
use Rattle.pm_machine.proofs.Extending.{extension_builds, failed_extension}
use Rattle.pm_machine.proofs.Reducing.{reduction_builds, failed_reduction}

no_start_at : (o : Option Subgoal) (clauses : List Clause) (c : ℕ) → IsSomeAnd o (λ goal. IsStepAt clauses goal (start c)) → ⊥
no_start_at None clauses c h = h
no_start_at (Some goal) clauses c h = h

-- a start is taken at the beginning
first_step : (problem : Problem) (c : ℕ) (m new : MachineState) (state : State) → IsValid problem → IsBuilt problem m → built problem.clauses m.steps ≡ state
    → MayTake problem.clauses state (start c) → Starts problem.clauses c m new → IsBuilt problem new
first_step problem c m new empty valid is state may taken = start_builds problem c m new valid is.sound state may taken
first_step problem c m new (rooted root trees) valid is state may taken = absurd (no_start_at (selected (rooted root trees)) problem.clauses c may)

pub steps_build : StepsBuild
steps_build problem (start c) m new valid is may taken = first_step problem c m new (built problem.clauses m.steps) valid is refl may taken
steps_build problem (extend c j) m new valid is may taken = extension_builds problem c j m valid is may new taken
steps_build problem (reduce k) m new valid is may taken = reduction_builds problem k m is may new taken

pub failed_steps_label_nothing : FailedStepsLabelNothing
failed_steps_label_nothing problem (start c) m valid is may failed = absurd failed
failed_steps_label_nothing problem (extend c j) m valid is may failed = failed_extension problem c j m valid is may failed
failed_steps_label_nothing problem (reduce k) m valid is may failed = failed_reduction problem k m is may failed

pub leaves_may_step : LeavesMayStep
leaves_may_step clauses empty goal step is at = absurd cc
leaves_may_step clauses (rooted root below) goal step is at =
    subst (λ (o : Option Subgoal). IsSomeAnd o (λ leaf. IsStepAt clauses leaf step)) (sym is) at
