-- The laws of steps that a search of tableaux rests on.
use Rattle.std.specs.Prelude.{◌≡◌, ℕ, ◌-◌, ◌<◌, ◌⊎◌, List, [], ◌∷◌, ◌++◌, Some, length, slice_get}
use Rattle.pm_logic.specs.declared.tableau.BoundKind.{BoundKind}
use Rattle.pm_logic.specs.declared.tableau.BoundKind.TheVariants.{Depth, Inferences}
use Rattle.pm_logic.specs.Problem.{Literal, Problem, IsValid}
use Rattle.pm_logic.specs.Tableau.{Tableau}
use Rattle.pm_calculus.specs.Connection.{IsWithinBound, Level}
use Rattle.pm_calculus.specs.Skeleton.{Skeletons, rooted, Step, start, built, literals_at}
use Rattle.pm_calculus.specs.Alternatives.{alternatives, MayTake, state_after}
use Rattle.pm_calculus.specs.Choices.{IsLabelling, IsReachedState, IsGeneral}
use Rattle.pm_machine.specs.State.{MachineState}
use Rattle.pm_store.specs.Marks.{IsLater}
use Rattle.pm_diseq.specs.Notes.{Pair}
use Rattle.pm_machine.specs.Labels.{IsBuilt}
use Rattle.pm_machine.specs.Taken.{Takes}
use Rattle.pm_tab.specs.Hopeful.{IsHopeful}
use Rattle.pm_tab.specs.Laws.{HasBuilt}
use Rattle.pm_tab.specs.Numbered.{numbered_tableau}
use Rattle.pm_tab.specs.Repeats.{NotesBranch, TellsRepeats, new_pairs}

-- a step whose result has a labelling is hopeful at sight
abbrev pub LabelledStepsAreHopeful : Type 0
LabelledStepsAreHopeful =
    (problem : Problem) (m : MachineState) (step : Step) (tableau : Tableau) → IsValid problem
    → IsBuilt problem m → MayTake problem.clauses (built problem.clauses m.steps) step
    → IsLabelling problem.clauses (built problem.clauses (m.steps ++ step ∷ [])) tableau
    → IsHopeful problem.clauses m step

-- where a list of choices builds what a machine has built, the general tableau of the list is that
-- of the machine's nodes, its variables numbered by first occurrence
abbrev pub NumberedTableauxAreGeneral : Type 0
NumberedTableauxAreGeneral =
    (level : Level) (choices : List ℕ) (m : MachineState) (root : ℕ) (below : Skeletons)
    → HasBuilt level.problem m root below → state_after level choices ≡ Some (rooted root below)
    → IsGeneral level choices (numbered_tableau root m)

-- a step that may be taken, and is, only adds to the store
abbrev pub StepsGrowStores : Type 0
StepsGrowStores =
    (problem : Problem) (m new : MachineState) (step : Step) → IsValid problem → IsBuilt problem m
    → MayTake problem.clauses (built problem.clauses m.steps) step
    → Takes problem.clauses step m new → IsLater m.equations new.equations

-- Where pairs tell of a machine's nodes whether a branch has a literal twice, these and the pairs of
-- a step's new nodes with the branch above them tell it of the nodes after the step.
abbrev pub NewPairsTell : Type 0
NewPairsTell =
    (problem : Problem) (m new : MachineState) (step : Step) (branch : List ℕ) (pairs : List Pair)
    → IsValid problem → IsBuilt problem m
    → MayTake problem.clauses (built problem.clauses m.steps) step
    → Takes problem.clauses step m new → NotesBranch m.nodes branch → TellsRepeats m.nodes pairs
    → TellsRepeats new.nodes
    (pairs ++ new_pairs new.nodes branch (length new.nodes - length m.nodes))

-- a tableau of the start clause alone, whose literals these are, is within the bound
abbrev pub StartFits : BoundKind → ℕ → List Literal → Type 0
StartFits Depth bound literals = (literals ≡ []) ⊎ (0 < bound)
StartFits Inferences bound literals = 0 < bound

-- What an alternative after reached choices builds is within the level's bound; of a start this is
-- asked.
abbrev pub AlternativesStayWithin : Type 0
AlternativesStayWithin =
    (level : Level) (steps : List Step) (number : ℕ) (step : Step) (tableau : Tableau)
    → slice_get (alternatives level (built level.problem.clauses steps)) number ≡ Some step
    → IsReachedState level (built level.problem.clauses steps)
    → ((clause : ℕ) → step ≡ start clause
    → StartFits level.kind level.bound (literals_at level.problem.clauses clause))
    → IsLabelling level.problem.clauses (built level.problem.clauses (steps ++ step ∷ [])) tableau
    → IsWithinBound level.kind level.bound tableau
