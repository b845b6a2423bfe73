use Rattle.std.proofs.Common.{true, false}
use Rattle.pm_store.proofs.MarkLemmas.{later_is_transitive}
use Rattle.pm_compile.specs.Instructions.{instruction_of}
use Rattle.pm_run.specs.Meaning.{Does, NoBody}
use Rattle.pm_run.specs.Failure.{Fails, NoBodyFails}
use Rattle.pm_run.specs.Inside.Running.{IsBodyReady, Performs, state_in}
use Rattle.pm_run.proofs.RunLemmas.{known, can_next, running_next, running_fails, running_done, body_ready_next, body_does_keeps, body_can_perform}
use Rattle.pm_run.proofs.running.run_body.Goals as goal

pub perform-requires : goal.perform-requires
perform-requires c =
    body_can_perform _ _ _ _ _ _ _ _
    (can_next (Does NoBody) (Fails NoBodyFails) IsBodyReady body_does_keeps body_ready_next _ _ _ _ _ _ c.code.invariant c.instr-item.result c.code-test.true c.instr-item.is)

pub returns-in_err-perform-clause-later : goal.returns-in_err-perform-clause-later
returns-in_err-perform-clause-later c = later_is_transitive _ _ _ c.code.invariant.later c.perform.ensures.later

pub returns-then-not-branch-clause-runs : goal.returns-then-not-branch-clause-runs
returns-then-not-branch-clause-runs c = λ branch.
    running_fails (Does NoBody) (Fails NoBodyFails) IsBodyReady body_does_keeps body_ready_next _ _ _ _ _ _ c.code.invariant c.instr-item.result c.code-test.true c.instr-item.is branch
    (known (Performs (instruction_of c.args.program.now.problem.now.terms c.instr-item.result) (state_in c.code.registers c.code.store c.code.children.items branch)
    (state_in c.perform.new.registers c.perform.new.store c.perform.new.children.items branch)) _ false c.if-not-branch.true (c.in_ok-perform.ensures.performs branch))

pub returns-then-not-branch-clause-later : goal.returns-then-not-branch-clause-later
returns-then-not-branch-clause-later c = later_is_transitive _ _ _ c.code.invariant.later c.perform.ensures.later

pub code-preserved : goal.code-preserved
code-preserved c =
    running_next (Does NoBody) (Fails NoBodyFails) IsBodyReady body_does_keeps body_ready_next _ _ _ _ _ _ c.code.invariant c.instr-item.result c.code-test.true c.instr-item.is
    (state_in c.perform.new.registers c.perform.new.store c.perform.new.children.items)
    (λ branch. known (Performs (instruction_of c.args.program.now.problem.now.terms c.instr-item.result) (state_in c.code.registers c.code.store c.code.children.items branch)
    (state_in c.perform.new.registers c.perform.new.store c.perform.new.children.items branch)) _ true c.if-not-branch.false (c.in_ok-perform.ensures.performs branch))

pub returns-clause-runs : goal.returns-clause-runs
returns-clause-runs c =
    running_done (Does NoBody) (Fails NoBodyFails) IsBodyReady body_does_keeps body_ready_next _ _ _ _ _ _ c.code.invariant c.code-test.false
