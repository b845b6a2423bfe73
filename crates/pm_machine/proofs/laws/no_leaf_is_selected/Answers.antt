use Rattle.pm_machine.proofs.Selected.{no_leaf_is_selected}
use Rattle.pm_machine.proofs.laws.no_leaf_is_selected.Goals as goal

pub returns : goal.returns
returns c = no_leaf_is_selected
