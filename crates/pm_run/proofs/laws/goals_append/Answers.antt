use Rattle.pm_run.proofs.BuildLemmas.{goals_append}
use Rattle.pm_run.proofs.laws.goals_append.Goals as goal

pub returns : goal.returns
returns c = goals_append
