use Rattle.std.proofs.Common.{length}
use Rattle.pm_run.specs.Meaning.{Does, RunsBody}
use Rattle.pm_run.specs.Failure.{Fails, BodyFails}
use Rattle.pm_run.specs.Bodies.{bodies_of}
use Rattle.pm_run.specs.Inside.Running.{IsStepReady, state_in}
use Rattle.pm_run.proofs.RunLemmas.{IsRunning}
use Rattle.pm_run.proofs.running.run.Given as goal

abbrev pub invariant-code : goal.invariant-code
invariant-code l =
    let bodies = bodies_of l.program.problem.now.clauses in
    IsRunning (Does (RunsBody bodies)) (Fails (BodyFails bodies)) (IsStepReady (length l.program.problem.now.clauses) bodies) l.program.problem.now.terms l.program.cells.items
    l.instrs l.instr-index (state_in l.fn.registers l.fn.store l.fn.children.items) (state_in l.registers l.store l.children.items)
