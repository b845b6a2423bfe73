use Rattle.pm_compile.specs.Code.{instructions}
use Rattle.pm_run.specs.Bodies.{bodies_of}
use Rattle.pm_run.specs.Inside.Running.{state_in}
use Rattle.pm_run.proofs.RunLemmas.{step_ends, step_stops}
use Rattle.pm_run.proofs.running.attempt.Goals as goal

pub returns-in-Ok-true-clause-comes : goal.returns-in-Ok-true-clause-comes
returns-in-Ok-true-clause-comes c = λ branch.
    let problem = c.args.program.now.problem.now in
    step_ends (bodies_of problem.clauses) (instructions problem.terms c.args.instrs.now) c.args.registers.now c.args.store.now c.args.children.now.items
    c.requires.children branch c.in-Ok-true.field-0 c.run.new.registers c.run.new.store c.run.new.children.items c.in-Ok-true.field-0-test (c.in-Ok-true.ensures.runs branch)

pub returns-in-Ok-false-clause-fails : goal.returns-in-Ok-false-clause-fails
returns-in-Ok-false-clause-fails c = λ branch.
    let problem = c.args.program.now.problem.now in
    step_stops (bodies_of problem.clauses) (instructions problem.terms c.args.instrs.now) c.args.registers.now c.args.store.now c.args.children.now.items
    c.requires.children branch c.in-Ok-false.field-0 (state_in c.run.new.registers c.run.new.store c.run.new.children.items branch) c.in-Ok-false.field-0-test
    (c.in-Ok-false.ensures.runs branch)
