use Rattle.pm_tab.proofs.Watching.{tells_step}
use Rattle.pm_tab.proofs.laws.new_pairs_tell.Goals as goal

pub returns : goal.returns
returns c = λ problem m new step branch pairs valid is may taken notes tells. tells_step problem m new valid is step may taken branch notes pairs tells
