use Rattle.std.proofs.Common.{ℕ, ◌<◌, List, length, subst}
use Rattle.std.specs.Prelude.{All, Contains}
use Rattle.std.proofs.lemmas.List.Elements.{All-same, All-weaker, All-contains}
use Rattle.pm_diseq.specs.declared.trials.Step.{Step}
use Rattle.pm_diseq.proofs.trials.round.Goals as goal

pub run-requires-clause-steps : goal.run-requires-clause-steps
run-requires-clause-steps c =
    let inside = λ (cell : ℕ). cell < length c.random_cells.new.store.cells in
    let stand = λ (step : Step). inside step.left × inside step.right in
    let among = λ (step : Step). Contains c.in_ok-cells.cells.items step.left × Contains c.in_ok-cells.cells.items step.right in
    let chosen : All among c.in_ok-steps.steps.items =
    subst (λ (cells : List ℕ). All (λ (step : Step). Contains cells step.left × Contains cells step.right) c.in_ok-steps.steps.items) c.deref.ensures.value c.in_ok-steps.ensures in
    All-same stand _ _ c.deref-2.ensures.value
    (All-weaker among stand (λ step both. (
      All-contains inside c.in_ok-cells.cells.items step.left c.in_ok-cells.ensures.within both.0,
      All-contains inside c.in_ok-cells.cells.items step.right c.in_ok-cells.ensures.within both.1,
    )) _ chosen)
