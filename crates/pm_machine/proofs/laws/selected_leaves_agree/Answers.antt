use Rattle.pm_machine.proofs.Selected.{selected_leaves_agree}
use Rattle.pm_machine.proofs.laws.selected_leaves_agree.Goals as goal

pub returns : goal.returns
returns c = selected_leaves_agree
