use Rattle.pm_run.proofs.ForwardLemmas.{runs_show_wants}
use Rattle.pm_run.proofs.laws.runs_show_wants.Goals as goal

pub returns : goal.returns
returns c = runs_show_wants
