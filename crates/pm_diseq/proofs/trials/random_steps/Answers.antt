use Rattle.std.specs.Prelude.{Contains}
use Rattle.std.proofs.lemmas.List.Elements.{All-same, All-push}
use Rattle.pm_diseq.specs.declared.trials.Step.{Step}
use Rattle.pm_diseq.proofs.trials.random_steps.Goals as goal

pub steps-preserved : goal.steps-preserved
steps-preserved c =
    let holds = λ (step : Step). Contains c.args.cells.now step.left × Contains c.args.cells.now step.right in
    All-same holds _ _ c.in_ok-push.ensures.items (All-push holds _ _ c.steps.invariant (c.random_of-left.ensures, c.random_of-right.ensures))
