use Rattle.std.specs.Prelude.{All, Contains}
use Rattle.pm_diseq.proofs.trials.random_steps.Given as goal

abbrev pub invariant-steps : goal.invariant-steps
invariant-steps l = All (λ step. Contains l.cells step.left × Contains l.cells step.right) l.steps.items
