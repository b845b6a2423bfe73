-- What runs of code over cells give.
use Rattle.std.specs.Prelude.{◌≡◌, ℕ, ◌<◌, true, List, [], Option, Some, length, slice_get}
use Rattle.pm_logic.specs.Term.{Term, tree_at}
use Rattle.pm_logic.specs.Problem.{Literal, Clause, Problem}
use Rattle.pm_store.specs.Equations.{Equations}
use Rattle.pm_calculus.specs.Skeleton.{literals_at}
use Rattle.pm_compile.specs.Instructions.{Instruction}
use Rattle.pm_compile.specs.Scheme.{is_ground, start_code, extension_code}
use Rattle.pm_run.specs.declared.children.NewChild.{NewChild}
use Rattle.pm_run.specs.State.{CellLiteral, Child, RunState}
use Rattle.pm_run.specs.Meaning.{IsCellOf, Runs}
use Rattle.pm_run.specs.Failure.{RunFails}
use Rattle.pm_run.specs.InStore.{AreBelow}
use Rattle.pm_run.specs.Steps.{before_step}
use Rattle.pm_run.specs.Bodies.{bodies_of, variables_at}

-- what a runner has: a problem, and for each of its rows a cell, if the term is ground
pub record GroundProblem : Type 0 where
  pub problem : Problem
  pub cells : List (Option ℕ)

-- each ground term of the table has a cell
abbrev pub HasGroundCells : List Term → List (Option ℕ) → Equations → Type 0
HasGroundCells terms cells s =
    (row : ℕ) → row < length terms → is_ground (tree_at terms row) ≡ true
    → (c : ℕ) × (slice_get cells row ≡ Some (Some c)) × IsCellOf s (tree_at terms row) c

-- what a child is
abbrev pub child_of : NewChild → Child
child_of child = record {
  literal =
      record {
        positive = child.positive;
        predicate = child.predicate;
        args = child.args.items;
      };
  closed = child.closed;
}

-- a run of the code from this state comes to its end, and then there are this store and these
-- children
abbrev pub EndsIn : (ℕ → List Instruction) → List Instruction → RunState → Equations
    → List Child → Type 0
EndsIn bodies code old new children =
    (last : RunState) × Runs bodies code old last
    × (last.equations ≡ new) × (last.children ≡ children)

-- on any branch a run of the code from before a step, with so many locals and these cells on the
-- stack, comes to its end, and then there are this store and these children
abbrev pub ComesTo : List Clause → List Instruction → ℕ → List ℕ → Equations
    → Equations → List Child → Type 0
ComesTo clauses code locals cells old new children =
    (branch : List CellLiteral)
    → EndsIn (bodies_of clauses) code (before_step locals old branch cells) new children

-- on any branch a run of the code from before a step comes to an instruction that can't be done
abbrev pub FailsFrom : List Clause → List Instruction → ℕ → List ℕ → Equations → Type 0
FailsFrom clauses code locals cells old =
    (branch : List CellLiteral)
    → RunFails (bodies_of clauses) code (before_step locals old branch cells)

-- a start with the clause comes to its end
abbrev pub StartComesTo : List Clause → ℕ → Equations → Equations → List Child → Type 0
StartComesTo clauses c old new children =
    ComesTo clauses (start_code c) (variables_at clauses c) [] old new children

-- an extension of a leaf with these arguments, by the literal of the clause at this place, comes to
-- its end
abbrev pub ExtensionComesTo : List Clause → ℕ → ℕ → List ℕ → Equations → Equations
    → List Child → Type 0
ExtensionComesTo clauses c j cells old new children =
    (literal : Literal) → slice_get (literals_at clauses c) j ≡ Some literal
    → ComesTo clauses (extension_code c j literal) (variables_at clauses c) cells old new children

-- the extension comes to an instruction that can't be done
abbrev pub ExtensionFails : List Clause → ℕ → ℕ → List ℕ → Equations → Type 0
ExtensionFails clauses c j cells old =
    (literal : Literal) → slice_get (literals_at clauses c) j ≡ Some literal
    → FailsFrom clauses (extension_code c j literal) (variables_at clauses c) cells old

-- there are as many cells as the literal of the clause at this place has arguments
abbrev pub HasArgsOf : List Clause → ℕ → ℕ → List ℕ → Type 0
HasArgsOf clauses c j cells =
    (literal : Literal) → slice_get (literals_at clauses c) j ≡ Some literal
    → length cells ≡ length literal.args

-- a step with the clause may be tried: the ground terms have cells in the store, and there are no
-- children yet
pub record CanStep (runner : GroundProblem) (c : ℕ) (s : Equations)
    (children : List NewChild) : Type 0 where
  pub clause : c < length runner.problem.clauses
  pub cells : HasGroundCells runner.problem.terms runner.cells s
  pub none : children ≡ []

-- the literal of the clause at this place is there, and has as many arguments as there are cells of
-- the store
pub record CanMeet (clauses : List Clause) (c j : ℕ) (cells : List ℕ) (s : Equations) : Type 0 where
  pub literal : j < length (literals_at clauses c)
  pub count : HasArgsOf clauses c j cells
  pub below : AreBelow (length s.cells) cells
