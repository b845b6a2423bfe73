use Rattle.pm_run.specs.Meaning.{Does, NoBody}
use Rattle.pm_run.specs.Failure.{Fails, NoBodyFails}
use Rattle.pm_run.specs.Inside.Running.{IsBodyReady, state_in}
use Rattle.pm_run.proofs.RunLemmas.{IsRunning}
use Rattle.pm_run.proofs.running.run_body.Given as goal

abbrev pub invariant-code : goal.invariant-code
invariant-code l =
    IsRunning (Does NoBody) (Fails NoBodyFails) IsBodyReady l.program.problem.now.terms l.program.cells.items l.instrs l.instr-index
    (state_in l.fn.registers l.fn.store l.fn.children.items) (state_in l.registers l.store l.children.items)
