use Rattle.pm_run.proofs.TurnLemmas.{runs_compose}
use Rattle.pm_run.proofs.laws.runs_compose.Goals as goal

pub returns : goal.returns
returns c = runs_compose
