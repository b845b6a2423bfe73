-- Whole steps: what the runs of their code do to solutions.
use Rattle.std.specs.Prelude.{◌≡◌, ℕ, List, [], ◌∷◌, Option, None, ⊤, length, map, replicate}
use Rattle.pm_logic.specs.Term.{Term}
use Rattle.pm_logic.specs.Problem.{Literal}
use Rattle.pm_logic.specs.Filling.{fill}
use Rattle.pm_store.specs.Equations.{Equations}
use Rattle.pm_store.specs.Solutions.{Solves}
use Rattle.pm_compile.specs.Instructions.{Instruction, REDUCE, DONE}
use Rattle.pm_run.specs.State.{CellLiteral, RunState, TreeChild, literal_under, child_under, with_changed, closed_tree_child}
use Rattle.pm_calculus.specs.Substitution.{AreComplementary}
use Rattle.pm_run.specs.Wants.{filled_child}
use Rattle.pm_run.specs.InStore.{AgreeBelow}

-- the code of a reduction by the ancestor at this depth
abbrev pub reduction_code : ℕ → List Instruction
reduction_code k = REDUCE k ∷ DONE ∷ []

-- before a step no local is set, and there is no child
abbrev pub before_step : ℕ → Equations → List CellLiteral → List ℕ → RunState
before_step vars s branch stack = record {
  locals = replicate vars None;
  equations = s;
  stack = stack;
  children = [];
  branch = branch;
  closed_by = None;
}

-- Each solution after the step is one before it for which this holds, with some trees for the
-- variables. Each solution before for which it holds, with whatever trees for the variables, goes
-- on to the new cells as one after. In both, these are the children.
pub record StepSolutions (old new : RunState) (holds : (ℕ → Term) → (ℕ → Term) → Type 0)
    (children : (ℕ → Term) → List TreeChild) : Type 0 where
  pub shown :
      (trees : ℕ → Term) → Solves new.equations trees
      → (variables : ℕ → Term) × Solves old.equations trees × holds variables trees
      × (map (child_under trees) new.children ≡ children variables)
  pub reached :
      (variables trees : ℕ → Term) → Solves old.equations trees → holds variables trees
      → (later : ℕ → Term) × AgreeBelow (length old.equations.cells) trees later
      × Solves new.equations later
      × (map (child_under later) new.children ≡ children variables)

-- a step that was done: what it does to solutions, and which ancestor closed the leaf
pub record IsStep (old new : RunState) (holds : (ℕ → Term) → (ℕ → Term) → Type 0)
    (children : (ℕ → Term) → List TreeChild) (depth : Option ℕ) : Type 0 where
  pub solutions : StepSolutions old new holds children
  pub stack : new.stack ≡ []
  pub closed_by : new.closed_by ≡ depth

-- for a start nothing is asked
abbrev pub AsksNothing : (ℕ → Term) → (ℕ → Term) → Type 0
AsksNothing variables trees = ⊤

-- for an extension, that the leaf's arguments are the literal's, filled
abbrev pub HasFilledArgs : List ℕ → Literal → (ℕ → Term) → (ℕ → Term) → Type 0
HasFilledArgs cells literal variables trees =
    map trees cells ≡ map (fill variables) literal.args

-- for a reduction, that the leaf has the opposite sign, and the predicate and the arguments of the
-- ancestor
abbrev pub IsComplementaryUnder : CellLiteral → CellLiteral → (ℕ → Term) → (ℕ → Term) → Type 0
IsComplementaryUnder leaf ancestor variables trees =
    AreComplementary (literal_under trees leaf) (literal_under trees ancestor)

-- the children of the literals of a clause, filled
abbrev pub filled_children : List Literal → (ℕ → Term) → List TreeChild
filled_children literals variables = map (filled_child variables) literals

-- the same, of which the one at this place is closed
abbrev pub filled_and_closed : ℕ → List Literal → (ℕ → Term) → List TreeChild
filled_and_closed j literals variables =
    with_changed j closed_tree_child (filled_children literals variables)

-- a reduction has no children
abbrev pub no_children : (ℕ → Term) → List TreeChild
no_children variables = []

-- no solution before the step, with no trees for the variables, has what is asked
abbrev pub HasNoSolutions : Equations → ((ℕ → Term) → (ℕ → Term) → Type 0) → Type 0
HasNoSolutions s holds = (variables trees : ℕ → Term) → Solves s trees → ¬ holds variables trees
