-- A run, from one instruction to the next.
use Rattle.std.specs.Prelude.{◌≡◌, ℕ, ◌<◌, Bool, true, false, List, Option, None, Some, All, length, map, reverse, slice_get}
use Rattle.pm_logic.specs.Term.{Term}
use Rattle.pm_logic.specs.Problem.{Problem}
use Rattle.pm_store.specs.Equations.{Equations}
use Rattle.pm_compile.specs.declared.instr.Instr.{Instr}
use Rattle.pm_compile.specs.Instructions.{Instruction, HasRowBelow, instruction_of}
use Rattle.pm_compile.specs.Code.{instructions}
use Rattle.pm_run.specs.State.{CellLiteral, Child, RunState}
use Rattle.pm_run.specs.Turns.{InTurn}
use Rattle.pm_run.specs.Meaning.{Does, NoBody, RunsBody}
use Rattle.pm_run.specs.Failure.{Fails, ComesToFail, NoBodyFails, BodyFails}
use Rattle.pm_run.specs.Bodies.{bodies_of}
use Rattle.pm_run.specs.InStore.{AreBelow, IsInStore}
use Rattle.pm_run.specs.declared.running.Registers.{Registers}
use Rattle.pm_run.specs.declared.children.NewChild.{NewChild}
use Rattle.pm_run.specs.Runner.{HasGroundCells, child_of}
use Rattle.pm_run.specs.Inside.Ready.{Finds, IsReadyIn, NoBodyIsReady, EndsWith, BodyIsReady, EndsAnyhow}

-- the locals, the store, the stack with its top last, and the children, on a branch
abbrev pub state_of : List (Option ℕ) → Equations → List ℕ → List Child
    → List CellLiteral → RunState
state_of locals s stack children branch = record {
  locals = locals;
  equations = s;
  stack = reverse stack;
  children = children;
  branch = branch;
  closed_by = None;
}

-- the same of the program's own values
abbrev pub state_in : Registers → Equations → List NewChild → List CellLiteral → RunState
state_in registers s children =
    state_of registers.locals.items s registers.stack.items (map child_of children)

-- the instruction is done, or it can't be
abbrev pub Performs : Instruction → RunState → RunState → Bool → Type 0
Performs i old new true = Does NoBody i old new
Performs i old new false = Fails NoBodyFails i old

-- the same, where an instruction may perform the body of a clause
abbrev pub StepPerforms : (ℕ → List Instruction) → Instruction → RunState → RunState → Bool
    → Type 0
StepPerforms bodies i old new true = Does (RunsBody bodies) i old new
StepPerforms bodies i old new false = Fails (BodyFails bodies) i old

-- the code comes to its end, or to an instruction that can't be done
abbrev pub RunsTo : (Instruction → RunState → RunState → Type 0) → (Instruction → RunState → Type 0)
    → List Instruction → RunState → RunState → Bool → Type 0
RunsTo does fails code old new true = InTurn does code old new
RunsTo does fails code old new false = ComesToFail does fails code old

-- so for the code of a step, which may perform the bodies of clauses
abbrev pub StepRunsTo : (ℕ → List Instruction) → List Instruction → RunState → RunState → Bool
    → Type 0
StepRunsTo bodies code old new answer =
    RunsTo (Does (RunsBody bodies)) (Fails (BodyFails bodies)) code old new answer

-- the code of a body is ready
abbrev pub IsBodyReady : List Instruction → RunState → Type 0
IsBodyReady code m =
    (vars : ℕ) × (seen : List ℕ) × (height : ℕ)
    × IsReadyIn vars NoBodyIsReady (EndsWith seen height) code m

-- the code of a step is ready, which performs the bodies of so many clauses
abbrev pub IsStepReady : ℕ → (ℕ → List Instruction) → List Instruction → RunState → Type 0
IsStepReady count bodies code m =
    (vars : ℕ) × IsReadyIn vars (BodyIsReady count vars bodies) EndsAnyhow code m

-- the instructions have what they need, of whose code this holds: rows of the table, cells for the
-- ground terms, and addresses in the store
pub record CanRun (terms : List Term) (cells : List (Option ℕ))
    (holds : List Instruction → RunState → Type 0)
    (instrs : List Instr) (m : RunState) : Type 0 where
  pub rows : All (HasRowBelow (length terms)) instrs
  pub has_cells : HasGroundCells terms cells m.equations
  pub within : IsInStore m
  pub ready : holds (instructions terms instrs) m

-- so of the code of a step, which may perform the bodies of the problem's clauses
abbrev pub CanRunStep : Problem → List (Option ℕ) → List Instr → RunState → Type 0
CanRunStep problem cells instrs m =
    CanRun problem.terms cells
    (IsStepReady (length problem.clauses) (bodies_of problem.clauses)) instrs m

-- the instruction has what it needs
pub record CanPerform (terms : List Term) (cells : List (Option ℕ)) (instr : Instr)
    (locals : List (Option ℕ)) (s : Equations) (stack : List ℕ) : Type 0 where
  pub row : HasRowBelow (length terms) instr
  pub has_cells : HasGroundCells terms cells s
  pub locals_below : (x c : ℕ) → slice_get locals x ≡ Some (Some c) → c < length s.cells
  pub stack_below : AreBelow (length s.cells) stack
  pub finds : Finds (instruction_of terms instr) locals (length stack)
