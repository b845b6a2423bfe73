use Rattle.std.proofs.Common.{true, false, length}
use Rattle.pm_store.proofs.MarkLemmas.{later_is_transitive}
use Rattle.pm_compile.specs.Instructions.{instruction_of}
use Rattle.pm_run.specs.Meaning.{Does, RunsBody}
use Rattle.pm_run.specs.Failure.{Fails, BodyFails}
use Rattle.pm_run.specs.Bodies.{bodies_of}
use Rattle.pm_run.specs.Inside.Running.{IsStepReady, StepPerforms, state_in}
use Rattle.pm_run.proofs.RunLemmas.{known, running_next, running_fails, running_done, step_ready_next, step_does_keeps}
use Rattle.pm_run.proofs.running.run.Goals as goal

pub returns-in_err-perform_first-clause-later : goal.returns-in_err-perform_first-clause-later
returns-in_err-perform_first-clause-later c = later_is_transitive _ _ _ c.code.invariant.later c.perform_first.ensures.later

pub returns-then-not-branch-clause-runs : goal.returns-then-not-branch-clause-runs
returns-then-not-branch-clause-runs c = λ branch.
    let problem = c.args.program.now.problem.now in
    let bodies = bodies_of problem.clauses in
    running_fails (Does (RunsBody bodies)) (Fails (BodyFails bodies)) (IsStepReady (length problem.clauses) bodies) (step_does_keeps bodies) (step_ready_next (length problem.clauses) bodies)
    _ _ _ _ _ _ c.code.invariant c.instr-item.result c.code-test.true c.instr-item.is branch
    (known (StepPerforms bodies (instruction_of problem.terms c.instr-item.result) (state_in c.code.registers c.code.store c.code.children.items branch)
    (state_in c.perform_first.new.registers c.perform_first.new.store c.perform_first.new.children.items branch)) _ false c.if-not-branch.true (c.in_ok-perform_first.ensures.performs branch))

pub returns-then-not-branch-clause-later : goal.returns-then-not-branch-clause-later
returns-then-not-branch-clause-later c = later_is_transitive _ _ _ c.code.invariant.later c.perform_first.ensures.later

pub code-preserved : goal.code-preserved
code-preserved c =
    let problem = c.args.program.now.problem.now in
    let bodies = bodies_of problem.clauses in
    running_next (Does (RunsBody bodies)) (Fails (BodyFails bodies)) (IsStepReady (length problem.clauses) bodies) (step_does_keeps bodies) (step_ready_next (length problem.clauses) bodies)
    _ _ _ _ _ _ c.code.invariant c.instr-item.result c.code-test.true c.instr-item.is
    (state_in c.perform_first.new.registers c.perform_first.new.store c.perform_first.new.children.items)
    (λ branch. known (StepPerforms bodies (instruction_of problem.terms c.instr-item.result) (state_in c.code.registers c.code.store c.code.children.items branch)
    (state_in c.perform_first.new.registers c.perform_first.new.store c.perform_first.new.children.items branch)) _ true c.if-not-branch.false (c.in_ok-perform_first.ensures.performs branch))

pub returns-clause-runs : goal.returns-clause-runs
returns-clause-runs c =
    let problem = c.args.program.now.problem.now in
    let bodies = bodies_of problem.clauses in
    running_done (Does (RunsBody bodies)) (Fails (BodyFails bodies)) (IsStepReady (length problem.clauses) bodies) (step_does_keeps bodies) (step_ready_next (length problem.clauses) bodies)
    _ _ _ _ _ _ c.code.invariant c.code-test.false
