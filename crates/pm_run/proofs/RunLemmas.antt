-- Runs, one instruction after another.
use Rattle.std.proofs.Common.{◌≡◌, ℕ, zero, suc, ◌+◌, ◌<◌, ◌≤◌, Bool, true, false, List, [], ◌∷◌, drop, get_or, length, map, Option, Some, slice_get, refl, sym, ◌∙◌, ap, subst, arith}
use Rattle.std.specs.Option.{option_map_or}
use Rattle.std.proofs.lemmas.List.{drop_more, drop_all, length-reverse}
use Rattle.std.proofs.lemmas.List.Elements.{All-head, All-tail}
use Rattle.pm_logic.specs.Term.{Term}
use Rattle.pm_store.specs.Equations.{Equations}
use Rattle.pm_store.specs.Marks.{IsLater}
use Rattle.pm_store.proofs.MarkLemmas.{growth_is_later, later_is_transitive}
use Rattle.pm_logic.specs.Problem.{Literal, Problem}
use Rattle.pm_compile.specs.declared.instr.Instr.{Instr}
use Rattle.pm_compile.specs.declared.instr.Instr.TheVariants.{First, Again, Meet, Ground, Fresh, Push, Make, Constant, Goal, Body, EndBody, Close, Reduce, Done}
use Rattle.pm_compile.specs.Instructions.{Instruction, HasRowBelow, instruction_of, FIRST, AGAIN, MEET, GROUND, NEW, PUSH, MAKE, CONST, GOAL, BODY, RETURN, CLOSE, REDUCE, DONE}
use Rattle.pm_compile.specs.Code.{ClauseCode, IsCodeOf, body_at, instructions}
use Rattle.pm_compile.specs.Laws.{Says}
use Rattle.pm_compile.specs.Scheme.{body_code}
use Rattle.pm_compile.proofs.LawLemmas.{code_follows}
use Rattle.pm_run.specs.Bodies.{bodies_of}
use Rattle.pm_run.specs.State.{CellLiteral, Child, RunState}
use Rattle.pm_run.specs.Turns.{InTurn}
use Rattle.pm_run.specs.Meaning.{Does, NoBody, RunsBody, Runs}
use Rattle.pm_run.specs.Failure.{Fails, ComesToFail, NoBodyFails, BodyFails, RunFails}
use Rattle.pm_run.specs.declared.running.Registers.{Registers}
use Rattle.pm_run.specs.declared.children.NewChild.{NewChild}
use Rattle.pm_run.specs.Runner.{child_of, EndsIn}
use Rattle.pm_run.specs.Inside.Ready.{IsReady, IsReadyIn, NoBodyIsReady, EndsWith, BodyIsReady, EndsAnyhow, Finds}
use Rattle.pm_run.specs.Inside.Running.{state_of, state_in, Performs, StepPerforms, RunsTo, IsBodyReady, IsStepReady, CanRun, CanPerform}
use Rattle.pm_run.proofs.StoreLemmas.{All-reversed}
use Rattle.pm_run.proofs.KeepLemmas.{Keeps, does_keeps, no_body_keeps, body_keeps}
use Rattle.pm_run.proofs.GroundLemmas.{ground_cells_last}
use Rattle.pm_run.proofs.FitLemmas.{ready_next, no_body_keeps_fit, body_keeps_fit, ready_finds}

pub there : {A : Type 0} (xs : List A) (i : ℕ) → i < length xs → (x : A) × (slice_get xs i ≡ Some x)
there [] i lt = absurd (omega (arith, lt))
there (x ∷ xs) zero lt = (x, refl)
there (x ∷ xs) (suc i) lt = there xs i (omega (arith, lt))

-- where the rest of the code comes to its end or fails, so does the whole from the state before
pub record Continues (does : Instruction → RunState → RunState → Type 0)
    (fails : Instruction → RunState → Type 0) (code rest : List Instruction)
    (old now : RunState) : Type 0 where
  pub comes : (last : RunState) → InTurn does rest now last → InTurn does code old last
  pub stops : ComesToFail does fails rest now → ComesToFail does fails code old

-- the run has come to the instruction at this place
pub record IsRunning (does : Instruction → RunState → RunState → Type 0) (fails : Instruction → RunState → Type 0)
    (holds : List Instruction → RunState → Type 0) (terms : List Term) (cells : List (Option ℕ)) (instrs : List Instr) (k : ℕ)
    (old now : List CellLiteral → RunState) : Type 0 where
  pub continues : (branch : List CellLiteral) → Continues does fails (instructions terms instrs) (instructions terms (drop k instrs)) (old branch) (now branch)
  pub can : CanRun terms cells holds (drop k instrs) (now [])
  pub later : IsLater (old []).equations (now []).equations

module _ (does : Instruction → RunState → RunState → Type 0) (fails : Instruction → RunState → Type 0)
    (holds : List Instruction → RunState → Type 0) (keeps : (i : Instruction) → Keeps (does i))
    (holds_next : (i : Instruction) (code : List Instruction) (m new : RunState) → does i m new → holds (i ∷ code) m → holds code new)
    (terms : List Term) (cells : List (Option ℕ)) (instrs : List Instr) (old : List CellLiteral → RunState) where
  abbrev Running : ℕ → (List CellLiteral → RunState) → Type 0
  Running k now = IsRunning does fails holds terms cells instrs k old now

  code : List Instr → List Instruction
  code is = instructions terms is

  pub running_first : CanRun terms cells holds instrs (old []) → Running 0 old
  running_first can = record {
    continues = λ branch. record { comes = λ last runs. runs; stops = λ stops. stops };
    can = can;
    later = (growth_is_later (old []).equations).unchanged;
  }

  module _ (k : ℕ) (now : List CellLiteral → RunState) (is : Running k now) where
    module _ (instr : Instr) (within : k < length instrs) (read : instr ≡ get_or instrs k instr) where
      pub rest_read : drop k instrs ≡ instr ∷ drop (k + 1) instrs
      rest_read = drop_more instrs k instr within ∙ ap (λ i. i ∷ drop (k + 1) instrs) (sym read)

      -- the instruction comes first in the rest
      pub can_next : CanRun terms cells holds (instr ∷ drop (k + 1) instrs) (now [])
      can_next = subst (λ (is : List Instr). CanRun terms cells holds is (now [])) rest_read is.can

      continues_from : (branch : List CellLiteral)
          → Continues does fails (instructions terms instrs) (instructions terms (instr ∷ drop (k + 1) instrs)) (old branch) (now branch)
      continues_from branch =
          subst (λ (is : List Instr). Continues does fails (instructions terms instrs) (instructions terms is) (old branch) (now branch)) rest_read (is.continues branch)

      pub running_next : (new : List CellLiteral → RunState) → ((branch : List CellLiteral) → does (instruction_of terms instr) (now branch) (new branch)) → Running (k + 1) new
      running_next new done =
          let i : Instruction = instruction_of terms instr in
          let stays = keeps i (now []) (new []) (done []) can_next.within in
          record {
            continues = λ branch. record {
              comes = λ last runs. (continues_from branch).comes last (new branch, done branch, runs);
              stops = λ stops. (continues_from branch).stops (record {
                before = i ∷ stops.before;
                instruction = stops.instruction;
                after = stops.after;
                reached = stops.reached;
                whole = ap (λ (is : List Instruction). i ∷ is) stops.whole;
                runs = (new branch, done branch, stops.runs);
                failed = stops.failed;
              });
            };
            can = record {
              rows = All-tail (HasRowBelow (length terms)) instr (drop (k + 1) instrs) can_next.rows;
              has_cells = ground_cells_last (now []).equations (new []).equations terms cells stays.1 can_next.has_cells;
              within = stays.0;
              ready = holds_next i (instructions terms (drop (k + 1) instrs)) (now []) (new []) (done []) can_next.ready;
            };
            later = later_is_transitive (old []).equations (now []).equations (new []).equations is.later stays.1;
          }

      pub running_fails : (branch : List CellLiteral) → fails (instruction_of terms instr) (now branch)
          → ComesToFail does fails (instructions terms instrs) (old branch)
      running_fails branch failed =
          (continues_from branch).stops (record {
            before = [];
            instruction = instruction_of terms instr;
            after = instructions terms (drop (k + 1) instrs);
            reached = now branch;
            whole = refl;
            runs = refl;
            failed = failed;
          })

    pub running_done : length instrs ≤ k → (branch : List CellLiteral) → InTurn does (instructions terms instrs) (old branch) (now branch)
    running_done beyond branch =
        (is.continues branch).comes (now branch)
        (subst (λ (is : List Instr). InTurn does (instructions terms is) (now branch) (now branch)) (sym (drop_all k instrs beyond)) refl)

-- bodies
pub body_ready_next : (i : Instruction) (code : List Instruction) (m new : RunState) → Does NoBody i m new → IsBodyReady (i ∷ code) m → IsBodyReady code new
body_ready_next i code m new does (vars, seen, height, ready) =
    (vars, seen, height, ready_next vars NoBodyIsReady (EndsWith seen height) NoBody (no_body_keeps_fit 0 vars (λ c. [])) i code m new does ready)

pub body_does_keeps : (i : Instruction) → Keeps (Does NoBody i)
body_does_keeps i = does_keeps NoBody no_body_keeps i

-- steps
pub step_ready_next : (count : ℕ) (bodies : ℕ → List Instruction) (i : Instruction) (code : List Instruction) (m new : RunState) → Does (RunsBody bodies) i m new
    → IsStepReady count bodies (i ∷ code) m → IsStepReady count bodies code new
step_ready_next count bodies i code m new does (vars, ready) =
    (vars, ready_next vars (BodyIsReady count vars bodies) EndsAnyhow (RunsBody bodies) (body_keeps_fit count vars bodies) i code m new does ready)

pub step_does_keeps : (bodies : ℕ → List Instruction) (i : Instruction) → Keeps (Does (RunsBody bodies) i)
step_does_keeps bodies i = does_keeps (RunsBody bodies) (body_keeps bodies) i

-- an instruction that performs a body is one of the code
not_body : (terms : List Term) (instr : Instr) → ((c : ℕ) → instr ≡ Body c → ⊥) → (c : ℕ) → instruction_of terms instr ≡ BODY c → ⊥
not_body terms (First x) other c is = cc
not_body terms (Again x) other c is = cc
not_body terms (Meet f n) other c is = cc
not_body terms (Ground t) other c is = cc
not_body terms Fresh other c is = cc
not_body terms (Push x) other c is = cc
not_body terms (Make f n) other c is = cc
not_body terms (Constant t) other c is = cc
not_body terms (Goal positive p n) other c is = cc
not_body terms (Body d) other c is = other d refl
not_body terms EndBody other c is = cc
not_body terms (Close j) other c is = cc
not_body terms (Reduce k) other c is = cc
not_body terms Done other c is = cc

-- what an instruction does that performs no body, it does in a step
pub done_in_step : (bodies : ℕ → List Instruction) (i : Instruction) (old new : RunState) (answer : Bool) → Performs i old new answer
    → StepPerforms bodies i old new answer
done_in_step bodies (FIRST x) old new true done = done
done_in_step bodies (AGAIN x) old new true done = done
done_in_step bodies (MEET f n) old new true done = done
done_in_step bodies (GROUND t) old new true done = done
done_in_step bodies NEW old new true done = done
done_in_step bodies (PUSH x) old new true done = done
done_in_step bodies (MAKE f n) old new true done = done
done_in_step bodies (CONST t) old new true done = done
done_in_step bodies (GOAL positive p n) old new true done = done
done_in_step bodies (BODY c) old new true done = absurd done
done_in_step bodies RETURN old new true done = done
done_in_step bodies (CLOSE j) old new true done = done
done_in_step bodies (REDUCE k) old new true done = done
done_in_step bodies DONE old new true done = done
done_in_step bodies (AGAIN x) old new false failed = failed
done_in_step bodies (MEET f n) old new false failed = failed
done_in_step bodies (GROUND t) old new false failed = failed
done_in_step bodies (REDUCE k) old new false failed = failed
done_in_step bodies (BODY c) old new false failed = absurd failed
done_in_step bodies (FIRST x) old new false failed = absurd failed
done_in_step bodies NEW old new false failed = absurd failed
done_in_step bodies (PUSH x) old new false failed = absurd failed
done_in_step bodies (MAKE f n) old new false failed = absurd failed
done_in_step bodies (CONST t) old new false failed = absurd failed
done_in_step bodies (GOAL positive p n) old new false failed = absurd failed
done_in_step bodies RETURN old new false failed = absurd failed
done_in_step bodies (CLOSE j) old new false failed = absurd failed
done_in_step bodies DONE old new false failed = absurd failed

-- the code of a body is that of the scheme
module _ (problem : Problem) (code : List ClauseCode) (is_code : IsCodeOf problem code) (c : ℕ) where
  pub body_says : c < length problem.clauses → Says problem (body_at code c) (bodies_of problem.clauses c)
  body_says lt =
      let (clause, stands) = there problem.clauses c lt in
      subst (λ (ls : List Literal). Says problem (body_at code c) (body_code ls)) (sym (ap (λ o. option_map_or (λ cl. cl.literals) o []) stands))
      (code_follows problem code is_code c clause stands).body

  pub body_can_run : (cells : List (Option ℕ)) (instr : Instr) (rest : List Instr) (m : RunState) → instr ≡ Body c
      → CanRun problem.terms cells (IsStepReady (length problem.clauses) (bodies_of problem.clauses)) (instr ∷ rest) m
      → CanRun problem.terms cells IsBodyReady (body_at code c) m
  body_can_run cells instr rest m is can =
      let whole = subst (λ (i : Instr). CanRun problem.terms cells (IsStepReady (length problem.clauses) (bodies_of problem.clauses)) (i ∷ rest) m) is can in
      let (vars, ready) = whole.ready in
      let (seen, height, fits, (its, others)) = ready in
      let says = body_says its.0 in
      record {
        rows = says.rows;
        has_cells = can.has_cells;
        within = can.within;
        ready = (
          vars,
          seen,
          height,
          (
            seen,
            height,
            fits,
            subst (λ (is : List Instruction). IsReady vars NoBodyIsReady (EndsWith seen height) seen height is) (sym says.says) its.1,
          ),
        );
      }

  pub body_within : (cells : List (Option ℕ)) (instr : Instr) (rest : List Instr) (m : RunState) → instr ≡ Body c
      → CanRun problem.terms cells (IsStepReady (length problem.clauses) (bodies_of problem.clauses)) (instr ∷ rest) m → c < length code
  body_within cells instr rest m is can =
      let whole = subst (λ (i : Instr). CanRun problem.terms cells (IsStepReady (length problem.clauses) (bodies_of problem.clauses)) (i ∷ rest) m) is can in
      omega (arith, whole.ready.1.3.0.0, is_code.count)

  -- a run of the body is what its instruction does
  pub body_done : (instr : Instr) (old new : RunState) (answer : Bool) → c < length problem.clauses → instr ≡ Body c
      → RunsTo (Does NoBody) (Fails NoBodyFails) (instructions problem.terms (body_at code c)) old new answer
      → StepPerforms (bodies_of problem.clauses) (instruction_of problem.terms instr) old new answer
  body_done instr old new true lt is runs =
      subst (λ (i : Instr). Does (RunsBody (bodies_of problem.clauses)) (instruction_of problem.terms i) old new) (sym is)
      (subst (λ (is : List Instruction). InTurn (Does NoBody) is old new) (body_says lt).says runs)
  body_done instr old new false lt is stops =
      subst (λ (i : Instr). Fails (BodyFails (bodies_of problem.clauses)) (instruction_of problem.terms i) old) (sym is)
      (subst (λ (is : List Instruction). ComesToFail (Does NoBody) (Fails NoBodyFails) is old) (body_says lt).says stops)

-- a test whose answer is known
pub known : (P : Bool → Type 0) (answer b : Bool) → answer ≡ b → P answer → P b
known P answer b is holds = subst P is holds

module _ (terms : List Term) (cells locals : List (Option ℕ)) (s : Equations) (stack : List ℕ) (children : List Child) (instr : Instr) (rest : List Instr) where
  abbrev here : RunState
  here = state_of locals s stack children []

  finds_here : (vars : ℕ) (ready : ℕ → List ℕ → ℕ → Type 0) (ends : List ℕ → ℕ → Type 0)
      → ((c : ℕ) (seen : List ℕ) (height : ℕ) → instruction_of terms instr ≡ BODY c → ready c seen height → ⊥)
      → IsReadyIn vars ready ends (instructions terms (instr ∷ rest)) here → Finds (instruction_of terms instr) locals (length stack)
  finds_here vars ready ends bodiless is =
      subst (λ (n : ℕ). Finds (instruction_of terms instr) locals n) (length-reverse stack)
      (ready_finds vars ready ends (instruction_of terms instr) (instructions terms rest) here bodiless is)

  can_with : (holds : List Instruction → RunState → Type 0) → CanRun terms cells holds (instr ∷ rest) here
      → Finds (instruction_of terms instr) locals (length stack) → CanPerform terms cells instr locals s stack
  can_with holds can finds = record {
    row = All-head (HasRowBelow (length terms)) instr rest can.rows;
    has_cells = can.has_cells;
    locals_below = can.within.locals;
    stack_below = All-reversed (λ c. c < length s.cells) stack can.within.cells.stack;
    finds = finds;
  }

  -- the first instruction of a body can be performed
  pub body_can_perform : CanRun terms cells IsBodyReady (instr ∷ rest) here → CanPerform terms cells instr locals s stack
  body_can_perform can =
      let (vars, seen, height, ready) = can.ready in
      can_with IsBodyReady can (finds_here vars NoBodyIsReady (EndsWith seen height) (λ c s h is none. none) ready)

  -- and that of a step, unless it performs a body
  pub step_can_perform : (count : ℕ) (bodies : ℕ → List Instruction) → ((c : ℕ) → instr ≡ Body c → ⊥)
      → CanRun terms cells (IsStepReady count bodies) (instr ∷ rest) here → CanPerform terms cells instr locals s stack
  step_can_perform count bodies other can =
      let (vars, ready) = can.ready in
      can_with (IsStepReady count bodies) can
      (finds_here vars (BodyIsReady count vars bodies) EndsAnyhow (λ c s h is its. not_body terms instr other c is) ready)

-- a step that came to its end, or failed, where there were no children before
module _ (bodies : ℕ → List Instruction) (code : List Instruction) (registers : Registers) (s : Equations) (old : List NewChild) (none : old ≡ [])
    (branch : List CellLiteral) (answer : Bool) where
  from_none : state_in registers s old branch ≡ state_in registers s [] branch
  from_none = ap (λ (cs : List NewChild). state_in registers s cs branch) none

  pub step_ends : (after : Registers) (new : Equations) (children : List NewChild) → answer ≡ true
      → RunsTo (Does (RunsBody bodies)) (Fails (BodyFails bodies)) code (state_in registers s old branch) (state_in after new children branch) answer
      → EndsIn bodies code (state_in registers s [] branch) new (map child_of children)
  step_ends after new children is runs = (
    state_in after new children branch,
    subst (λ (m : RunState). Runs bodies code m (state_in after new children branch)) from_none
        (known (RunsTo (Does (RunsBody bodies)) (Fails (BodyFails bodies)) code (state_in registers s old branch) (state_in after new children branch)) answer true is runs),
    refl,
    refl,
  )

  pub step_stops : (new : RunState) → answer ≡ false
      → RunsTo (Does (RunsBody bodies)) (Fails (BodyFails bodies)) code (state_in registers s old branch) new answer
      → RunFails bodies code (state_in registers s [] branch)
  step_stops new is runs =
      subst (λ (m : RunState). RunFails bodies code m) from_none
      (known (RunsTo (Does (RunsBody bodies)) (Fails (BodyFails bodies)) code (state_in registers s old branch) new) answer false is runs)
