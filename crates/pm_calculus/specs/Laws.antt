-- What holds of the definitions: each law stands on a function of src/laws.rt.
use Rattle.std.specs.Prelude.{◌≡◌, ◌≢◌, ◌↔◌, ℕ, ◌<◌, ◌⊎◌, List, [], ◌∷◌, ◌++◌, length, map, Some, option_map}
use Rattle.std.specs.List.{AllZip}
use Rattle.pm_logic.specs.Term.{Term}
use Rattle.pm_logic.specs.Filling.{fill, put}
use Rattle.pm_logic.specs.Problem.{Symbol, Literal, Clause, Problem, IsTermOver, IsClauseOver, IsValid}
use Rattle.pm_logic.specs.Tableau.{Tableau, preorder}
use Rattle.pm_calculus.specs.Substitution.{put_in_literal, IsInstance, IsInstanceOf, AreComplementary}
use Rattle.pm_calculus.specs.Connection.{IsOver, IsClosed, IsRegular, IsRegularFor, Level, IsInClass, IsOverSymbols}
use Rattle.pm_calculus.specs.Skeleton.{State, empty, Step, built, nodes_of}
use Rattle.pm_calculus.specs.Alternatives.{state_after, steps_of, MayTakeAll}
use Rattle.pm_calculus.specs.Choices.{IsShownBy, IsLabelling, IsReached, IsComplete, IsLabellingOf, Follows, IsGeneral, width}
use Rattle.pm_calculus.specs.Agreement.{IsLeastList}
use Rattle.pm_calculus.specs.Truth.{Atom, IsTrueIn, HasFalseInstance}

-- each prefix of a reached list is reached
abbrev pub PrefixesAreReached : Type 0
PrefixesAreReached =
    (level : Level) (choices more : List ℕ) → IsReached level (choices ++ more)
    → IsReached level choices

-- each number of a reached list is below the width of the list before it
abbrev pub ChoicesAreBelowWidths : Type 0
ChoicesAreBelowWidths =
    (level : Level) (choices : List ℕ) (choice : ℕ) (more : List ℕ)
    → IsReached level (choices ++ choice ∷ more) → choice < width level choices

-- a complete list is reached, isn't empty, and has no alternatives
abbrev pub CompleteListsEnd : Type 0
CompleteListsEnd =
    (level : Level) (choices : List ℕ) → IsComplete level choices
    → IsReached level choices × (choices ≢ []) × (width level choices ≡ 0)

-- a labelling of what a complete list builds is in the class of the level, if it is as regular as
-- the class asks
abbrev pub CompleteListsGiveTableaux : Type 0
CompleteListsGiveTableaux =
    (level : Level) (choices : List ℕ) (tableau : Tableau) → IsComplete level choices
    → IsLabellingOf level choices tableau → IsRegularFor level.class tableau
    → IsInClass level tableau

-- the general tableau of a complete list is in the class of the level
abbrev pub GeneralTableauxAreInClass : Type 0
GeneralTableauxAreInClass =
    (level : Level) (choices : List ℕ) (tableau : Tableau) → IsComplete level choices
    → IsGeneral level choices tableau → IsInClass level tableau

-- a list has one general tableau at most
abbrev pub GeneralTableauxAreUnique : Type 0
GeneralTableauxAreUnique =
    (level : Level) (choices : List ℕ) (first second : Tableau) → IsGeneral level choices first
    → IsGeneral level choices second → first ≡ second

-- each tableau of the class follows a list that is complete at the level
abbrev pub TableauxFollowCompleteLists : Type 0
TableauxFollowCompleteLists =
    (level : Level) (tableau : Tableau) → IsInClass level tableau
    → (choices : List ℕ) × IsComplete level choices
    × Follows level.problem level.start choices tableau

-- a list that a tableau of the class follows is complete at the level
abbrev pub FollowedListsAreComplete : Type 0
FollowedListsAreComplete =
    (level : Level) (choices : List ℕ) (tableau : Tableau) → IsInClass level tableau
    → Follows level.problem level.start choices tableau → IsComplete level choices

-- a level has a complete list exactly where its class has a member
abbrev pub ListsAndTableauxAgree : Type 0
ListsAndTableauxAgree =
    (level : Level)
    → ((choices : List ℕ) × IsComplete level choices)
    ↔ ((tableau : Tableau) × IsInClass level tableau)

-- an instance of an instance is an instance: of a tableau, and of a clause whose variables are its
-- own
abbrev pub InstancesCompose : Type 0
InstancesCompose =
    (first second third : Tableau) → IsInstanceOf second first → IsInstanceOf third second
    → IsInstanceOf third first

abbrev pub ClauseInstancesCompose : Type 0
ClauseInstancesCompose =
    (symbols : List Symbol) (clause : Clause) (literals : List Literal) (terms : List Term)
    → IsClauseOver symbols clause → IsInstance clause literals
    → IsInstance clause (map (put_in_literal terms) literals)

-- a term with the terms of a list put for its variables, filled, is the term with the filled terms
-- of the list put for its variables
abbrev pub FilledInstances : Type 0
FilledInstances =
    (symbols : List Symbol) (terms : List Term) (trees : ℕ → Term) (t : Term)
    → IsTermOver symbols (length terms) t
    → fill trees (put terms t) ≡ put (map (fill trees) terms) t

-- an instance of a labelling is a labelling
abbrev pub InstancesLabel : Type 0
InstancesLabel =
    (problem : Problem) (state : State) (tableau other : Tableau) → IsValid problem
    → IsLabelling problem.clauses state other → IsInstanceOf tableau other
    → IsLabelling problem.clauses state tableau

-- where an instance has no literal twice on a branch, neither has what it is an instance of
abbrev pub RegularityReflects : Type 0
RegularityReflects =
    (tableau other : Tableau) → IsInstanceOf tableau other → IsRegular tableau → IsRegular other

-- under every truth assignment, a closed tableau has a false clause instance among its families
abbrev pub ClosedTableauxAreRefuted : Type 0
ClosedTableauxAreRefuted =
    (clauses : List Clause) (tableau : Tableau) → IsOver clauses tableau → IsClosed tableau
    → (atoms : List Atom) → HasFalseInstance clauses tableau atoms

-- what a list builds is what its steps build
abbrev pub StatesAreBuilt : Type 0
StatesAreBuilt =
    (level : Level) (choices : List ℕ)
    → state_after level choices ≡ option_map (built level.problem.clauses) (steps_of level choices)

-- each step of a list may be taken at what those before it build
abbrev pub StepsMayBeTaken : Type 0
StepsMayBeTaken =
    (level : Level) (choices : List ℕ) (steps : List Step)
    → steps_of level choices ≡ Some steps → MayTakeAll level.problem.clauses empty steps

-- what a list builds has, node by node in pre-order, the depths, faces and clauses of each
-- labelling
abbrev pub LabellingsShowNodes : Type 0
LabellingsShowNodes =
    (level : Level) (choices : List ℕ) (state : State) (tableau : Tableau)
    → state_after level choices ≡ Some state → IsLabelling level.problem.clauses state tableau
    → AllZip IsShownBy (nodes_of state) (preorder tableau)

-- a list builds the same at each level at which it builds anything: neither the class nor the bound
-- matters
abbrev pub StatesAgree : Type 0
StatesAgree =
    (level other : Level) (choices : List ℕ) (state second : State)
    → level.problem ≡ other.problem → level.start ≡ other.start
    → state_after level choices ≡ Some state → state_after other choices ≡ Some second
    → state ≡ second

-- each labelling of what a complete list builds follows the list
abbrev pub LabellingsFollow : Type 0
LabellingsFollow =
    (level : Level) (choices : List ℕ) (tableau : Tableau)
    → IsComplete level choices → IsLabellingOf level choices tableau
    → Follows level.problem level.start choices tableau

-- a tableau follows its least list
abbrev pub LeastListsAreFollowed : Type 0
LeastListsAreFollowed =
    (level : Level) (tableau : Tableau) (choices : List ℕ)
    → IsLeastList level tableau choices → Follows level.problem level.start choices tableau

-- a tableau has one least list at most
abbrev pub LeastListsAreUnique : Type 0
LeastListsAreUnique =
    (level : Level) (tableau : Tableau) (choices others : List ℕ)
    → IsLeastList level tableau choices → IsLeastList level tableau others → choices ≡ others

-- the general tableau of a list of a valid problem is over the problem's symbols
abbrev pub GeneralTableauxAreOverSymbols : Type 0
GeneralTableauxAreOverSymbols =
    (level : Level) (choices : List ℕ) (tableau : Tableau)
    → IsValid level.problem → IsGeneral level choices tableau
    → IsOverSymbols level.problem.symbols tableau

-- of two complementary literals exactly one is true
abbrev pub ComplementaryLiteralsDiffer : Type 0
ComplementaryLiteralsDiffer =
    (atoms : List Atom) (a b : Literal) → AreComplementary a b
    → (IsTrueIn atoms a ⊎ IsTrueIn atoms b) × (¬ (IsTrueIn atoms a × IsTrueIn atoms b))
