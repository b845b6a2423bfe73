use Rattle.std.proofs.Common.{List, [], sym, subst, length, arith, ◌<◌}
use Rattle.std.proofs.lemmas.Result.{IfOk-weaker}
use Rattle.pm_compile.specs.declared.instr.Instr.{Instr}
use Rattle.pm_compile.specs.Instructions.{instruction_of}
use Rattle.pm_compile.specs.Code.{instructions}
use Rattle.pm_run.specs.Meaning.{Does, NoBody}
use Rattle.pm_run.specs.Failure.{Fails, NoBodyFails}
use Rattle.pm_run.specs.Bodies.{bodies_of}
use Rattle.pm_run.specs.Inside.Running.{IsBodyReady, CanRun, RunsTo, state_in}
use Rattle.pm_run.proofs.RunLemmas.{done_in_step, step_can_perform, body_can_run, body_within, body_done}
use Rattle.pm_run.proofs.running.perform_first.Goals as goal

pub perform-requires : goal.perform-requires
perform-requires c =
    step_can_perform _ _ _ _ _ _ _ c.requires.can.0 _ (bodies_of c.args.program.now.problem.now.clauses) c.in_default.not-Body c.requires.can.1

pub body-requires : goal.body-requires
body-requires c = body_within c.args.program.now.problem.now _ c.requires.code c.in-Body.c _ _ c.requires.can.0 _ c.in-Body.is c.requires.can.1

pub run_body-requires : goal.run_body-requires
run_body-requires c =
    let program = c.args.program.now in
    let here = state_in c.args.registers.now c.args.store.now c.args.children.now.items [] in
    subst (λ (is : List Instr). CanRun program.problem.now.terms program.cells.items IsBodyReady is here) (sym c.body.ensures)
    (body_can_run program.problem.now program.code.now c.requires.code c.in-Body.c program.cells.items c.args.instr c.requires.can.0 here c.in-Body.is c.requires.can.1)

pub returns-in-Body-clause-performs : goal.returns-in-Body-clause-performs
returns-in-Body-clause-performs c =
    let program = c.args.program.now in
    let problem = program.problem.now in
    let within : c.in-Body.c < length problem.clauses =
    omega (
      arith,
      c.requires.code.count,
      body_within problem program.code.now c.requires.code c.in-Body.c program.cells.items c.args.instr c.requires.can.0
          (state_in c.args.registers.now c.args.store.now c.args.children.now.items []) c.in-Body.is c.requires.can.1,
    ) in
    IfOk-weaker c.run_body.result _ _
    (λ answer runs branch.
    body_done problem program.code.now c.requires.code c.in-Body.c c.args.instr (state_in c.args.registers.now c.args.store.now c.args.children.now.items branch)
    (state_in c.run_body.new.registers c.run_body.new.store c.run_body.new.children.items branch) answer within c.in-Body.is
    (subst (λ (is : List Instr). RunsTo (Does NoBody) (Fails NoBodyFails) (instructions problem.terms is)
    (state_in c.args.registers.now c.args.store.now c.args.children.now.items branch)
    (state_in c.run_body.new.registers c.run_body.new.store c.run_body.new.children.items branch) answer) c.body.ensures (runs branch)))
    c.run_body.ensures.runs

pub returns-in_default : goal.returns-in_default
returns-in_default c =
    let problem = c.args.program.now.problem.now in
    record {
      performs = IfOk-weaker c.perform.result _ _
          (λ answer done branch.
          done_in_step (bodies_of problem.clauses) (instruction_of problem.terms c.args.instr)
          (state_in c.args.registers.now c.args.store.now c.args.children.now.items branch)
          (state_in c.perform.new.registers c.perform.new.store c.perform.new.children.items branch) answer (done branch))
          c.perform.ensures.performs;
      later = c.perform.ensures.later;
    }
