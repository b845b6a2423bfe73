use Rattle.std.proofs.Common.{sym, subst}
use Rattle.pm_logic.specs.Problem.{Problem, IsValid}
use Rattle.pm_run.specs.Runner.{HasGroundCells}
use Rattle.pm_machine.proofs.AnswerLemmas.{first_history}
use Rattle.pm_machine.proofs.machine.Machine.new.Goals as goal

pub invariant_of-result : goal.invariant_of-result
invariant_of-result c = (
  c.new-3.ensures.items,
  first_history c.in_ok-runner.runner.problem c.in_ok-runner.runner.cells c.new.new.store c.in_ok-tree.tree c.in_ok-tree.ensures
      (subst IsValid (sym c.in_ok-runner.ensures.problem) c.in_ok-runner.ensures.valid) c.in_ok-runner.ensures.sound
      (subst (λ (p : Problem). HasGroundCells p.terms c.in_ok-runner.runner.cells c.new.new.store) (sym c.in_ok-runner.ensures.problem) c.in_ok-runner.ensures.cells),
)
