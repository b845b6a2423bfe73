use Rattle.pm_run.proofs.InstructionLemmas.{IsSetting}
use Rattle.pm_run.proofs.instructions.set_rest.Given as goal

abbrev pub invariant-locals : goal.invariant-locals
invariant-locals l = IsSetting l.fn.store l.fn.locals.items l.x l.store l.locals.items
