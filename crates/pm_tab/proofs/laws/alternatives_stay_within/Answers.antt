use Rattle.pm_tab.proofs.Taking.{step_within_tableau}
use Rattle.pm_tab.proofs.laws.alternatives_stay_within.Goals as goal

pub returns : goal.returns
returns c = λ level steps number step tableau is reached fits labelling. step_within_tableau level steps number step is reached fits tableau labelling
