use Rattle.pm_logic.proofs.Tableaux.{determined}
use Rattle.pm_logic.proofs.tableau.preorder_determines.Goals as goal

pub returns : goal.returns
returns c = determined
