use Rattle.pm_tab.proofs.Watching.{step_grows}
use Rattle.pm_tab.proofs.laws.steps_grow_stores.Goals as goal

pub returns : goal.returns
returns c = λ problem m new step valid is may taken. step_grows problem m new valid is step may taken
