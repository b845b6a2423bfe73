-- The laws of runs.
use Rattle.std.specs.Prelude.{◌≡◌, ◌↔◌, ℕ, List, [], ◌∷◌, ◌++◌, All, Option, None, Some, length, map}
use Rattle.pm_logic.specs.Term.{Term}
use Rattle.pm_logic.specs.Problem.{Literal}
use Rattle.pm_logic.specs.Filling.{fill}
use Rattle.pm_store.specs.Equations.{Equations}
use Rattle.pm_store.specs.Sound.{IsSound}
use Rattle.pm_store.specs.Marks.{IsLater}
use Rattle.pm_compile.specs.Instructions.{Instruction}
use Rattle.pm_compile.specs.Scheme.{head_code, building_code, goal_code, body_code, start_code, extension_code}
use Rattle.pm_run.specs.State.{CellLiteral, RunState, IsAncestor, TreeState, state_under, with_changed, closed_tree_child}
use Rattle.pm_run.specs.Wants.{Wants, WantsUnder, filled_child, with_filled}
use Rattle.pm_run.specs.Meaning.{Runs}
use Rattle.pm_run.specs.Failure.{RunFails}
use Rattle.pm_run.specs.Steps.{reduction_code, before_step, IsStep, AsksNothing, HasFilledArgs, IsComplementaryUnder, filled_children, filled_and_closed, no_children, HasNoSolutions}
use Rattle.pm_run.specs.Runner.{HasGroundCells}
use Rattle.pm_run.specs.InStore.{AreBelow, HasArgsBelow, IsInStore, Stands, AgreeBelow}

-- the head code of a term pops the term, filled
abbrev pub HeadsPop : Type 0
HeadsPop =
    (trees : ℕ → Term) (bodies : ℕ → List Instruction) (seen : List ℕ) (t : Term)
    (code : List Instruction) (state last : TreeState)
    → Wants trees bodies (head_code seen t ++ code) state last
    ↔ WantsUnder trees bodies (fill trees t ∷ []) code state last

-- the building code of a term pushes the term, filled
abbrev pub BuildingPushes : Type 0
BuildingPushes =
    (trees : ℕ → Term) (bodies : ℕ → List Instruction) (t : Term)
    (code : List Instruction) (state last : TreeState)
    → Wants trees bodies (building_code t ++ code) state last
    ↔ Wants trees bodies code (record state { stack = fill trees t ∷ state.stack }) last

-- the code of a goal appends a child with the literal, filled
abbrev pub GoalsAppend : Type 0
GoalsAppend =
    (trees : ℕ → Term) (bodies : ℕ → List Instruction) (literal : Literal)
    (code : List Instruction) (state last : TreeState)
    → Wants trees bodies (goal_code literal ++ code) state last
    ↔ Wants trees bodies code (with_filled trees (literal ∷ []) state) last

-- the code of a body appends a child for each literal
abbrev pub BodiesAppend : Type 0
BodiesAppend =
    (trees : ℕ → Term) (bodies : ℕ → List Instruction) (literals : List Literal)
    (state last : TreeState)
    → Wants trees bodies (body_code literals) state last
    ↔ (last ≡ with_filled trees literals state)

-- the code of a start appends a child for each literal of the clause
abbrev pub StartsAppend : Type 0
StartsAppend =
    (trees : ℕ → Term) (bodies : ℕ → List Instruction) (c : ℕ) (literals : List Literal)
    (state last : TreeState) → bodies c ≡ body_code literals
    → Wants trees bodies (start_code c) state last ↔ (last ≡ with_filled trees literals state)

-- the code of an extension pops the literal's arguments, appends a child for each literal of the
-- clause, and closes the one at its place
abbrev pub ExtensionsPopAndAppend : Type 0
ExtensionsPopAndAppend =
    (trees : ℕ → Term) (bodies : ℕ → List Instruction) (c j : ℕ) (literal : Literal)
    (literals : List Literal) (state last : TreeState) → bodies c ≡ body_code literals
    → Wants trees bodies (extension_code c j literal) state last
    ↔ ((rest : List Term) × (state.stack ≡ map (fill trees) literal.args ++ rest)
    × (last
    ≡ record state {
      stack = rest;
      children =
          with_changed j closed_tree_child
          (state.children ++ map (filled_child trees) literals);
    }))

-- a run of two parts of code is a run of the one and then a run of the other
abbrev pub RunsCompose : Type 0
RunsCompose =
    (bodies : ℕ → List Instruction) (code rest : List Instruction) (m new : RunState)
    → Runs bodies (code ++ rest) m new
    ↔ ((middle : RunState) × Runs bodies code m middle × Runs bodies rest middle new)

-- a solution of the store after a run is one of the store before it, with the same trees for the
-- variables whose locals are set; and over it the code wanted what it came to
abbrev pub RunsShowWants : Type 0
RunsShowWants =
    (bodies : ℕ → List Instruction) (code : List Instruction) (m new : RunState)
    (variables trees : ℕ → Term) → Runs bodies code m new → Stands variables trees new
    → Stands variables trees m
    × Wants variables bodies code (state_under trees m) (state_under trees new)

-- a run keeps the store sound, the addresses within it, and the branch as it was; the store after
-- is later
abbrev pub RunsStayInStores : Type 0
RunsStayInStores =
    (bodies : ℕ → List Instruction) (code : List Instruction) (m new : RunState)
    → Runs bodies code m new → IsInStore m
    → IsInStore new × IsLater m.equations new.equations × (new.branch ≡ m.branch)

-- where a solution of the store before a run meets what the code wants, with the trees that it has
-- for the locals that are set, it goes on to a solution after the run: one with the same trees for
-- the cells that were there, which shows what the code came to
abbrev pub WantsAreReached : Type 0
WantsAreReached =
    (bodies : ℕ → List Instruction) (code : List Instruction) (m new : RunState)
    (variables trees : ℕ → Term) (last : TreeState) → Runs bodies code m new → IsInStore m
    → Stands variables trees m → Wants variables bodies code (state_under trees m) last
    → (later : ℕ → Term) × AgreeBelow (length m.equations.cells) trees later
    × Stands variables later new × (state_under later new ≡ last)

-- where a run of the code comes to an instruction that can't be done, no solution and no trees for
-- the variables meet what the code wants
abbrev pub FailuresExclude : Type 0
FailuresExclude =
    (bodies : ℕ → List Instruction) (code : List Instruction) (m : RunState)
    (variables trees : ℕ → Term) (last : TreeState) → RunFails bodies code m → IsInStore m
    → Stands variables trees m → ¬ Wants variables bodies code (state_under trees m) last

-- before a step over a sound store all is in the store, if the cells of the stack and of the branch
-- are
abbrev pub StepsBeginInStores : Type 0
StepsBeginInStores =
    (vars : ℕ) (s : Equations) (branch : List CellLiteral) (cells : List ℕ) → IsSound s
    → AreBelow (length s.cells) cells → All (HasArgsBelow (length s.cells)) branch
    → IsInStore (before_step vars s branch cells)

-- the run of a start's code is a step that asks nothing, and whose children are the literals of the
-- clause, filled
abbrev pub StartsAreSteps : Type 0
StartsAreSteps =
    (bodies : ℕ → List Instruction) (c : ℕ) (literals : List Literal) (vars : ℕ)
    (s : Equations) (branch : List CellLiteral) (new : RunState) → bodies c ≡ body_code literals
    → Runs bodies (start_code c) (before_step vars s branch []) new
    → IsInStore (before_step vars s branch [])
    → IsStep (before_step vars s branch []) new AsksNothing (filled_children literals) None

-- no run of a start's code fails
abbrev pub StartsNeverFail : Type 0
StartsNeverFail =
    (bodies : ℕ → List Instruction) (c : ℕ) (literals : List Literal) (vars : ℕ)
    (s : Equations) (branch : List CellLiteral) → bodies c ≡ body_code literals
    → IsInStore (before_step vars s branch [])
    → ¬ RunFails bodies (start_code c) (before_step vars s branch [])

-- the run of an extension's code is a step that asks that the leaf's arguments be the literal's,
-- filled, and whose children are the literals of the clause, filled, with the literal's closed
abbrev pub ExtensionsAreSteps : Type 0
ExtensionsAreSteps =
    (bodies : ℕ → List Instruction) (c j : ℕ) (literal : Literal) (literals : List Literal)
    (vars : ℕ) (s : Equations) (branch : List CellLiteral) (cells : List ℕ) (new : RunState)
    → bodies c ≡ body_code literals → length cells ≡ length literal.args
    → Runs bodies (extension_code c j literal) (before_step vars s branch cells) new
    → IsInStore (before_step vars s branch cells)
    → IsStep (before_step vars s branch cells) new (HasFilledArgs cells literal)
    (filled_and_closed j literals) None

-- where a run of an extension's code fails, no solution and no trees have what it asks
abbrev pub ExtensionsFail : Type 0
ExtensionsFail =
    (bodies : ℕ → List Instruction) (c j : ℕ) (literal : Literal) (literals : List Literal)
    (vars : ℕ) (s : Equations) (branch : List CellLiteral) (cells : List ℕ)
    → bodies c ≡ body_code literals → length cells ≡ length literal.args
    → RunFails bodies (extension_code c j literal) (before_step vars s branch cells)
    → IsInStore (before_step vars s branch cells)
    → HasNoSolutions s (HasFilledArgs cells literal)

-- the run of a reduction's code is a step that asks that the leaf be complementary to the ancestor,
-- by which it is closed
abbrev pub ReductionsAreSteps : Type 0
ReductionsAreSteps =
    (bodies : ℕ → List Instruction) (k vars : ℕ) (s : Equations) (branch : List CellLiteral)
    (ancestor leaf : CellLiteral) (new : RunState) → IsAncestor branch k ancestor leaf
    → Runs bodies (reduction_code k) (before_step vars s branch []) new
    → IsInStore (before_step vars s branch [])
    → IsStep (before_step vars s branch []) new (IsComplementaryUnder leaf ancestor) no_children
    (Some k)

-- where a run of a reduction's code fails, no solution has what it asks
abbrev pub ReductionsFail : Type 0
ReductionsFail =
    (bodies : ℕ → List Instruction) (k vars : ℕ) (s : Equations) (branch : List CellLiteral)
    (ancestor leaf : CellLiteral) → IsAncestor branch k ancestor leaf
    → RunFails bodies (reduction_code k) (before_step vars s branch [])
    → IsInStore (before_step vars s branch [])
    → HasNoSolutions s (IsComplementaryUnder leaf ancestor)

-- the cells of ground terms stay such while the store grows
abbrev pub GroundCellsLast : Type 0
GroundCellsLast =
    (s new : Equations) (terms : List Term) (cells : List (Option ℕ)) → IsLater s new
    → HasGroundCells terms cells s → HasGroundCells terms cells new
