use Rattle.pm_calculus.proofs.General.{general_in_class}
use Rattle.pm_calculus.proofs.laws.general_tableaux_are_in_class.Goals as goal

pub returns : goal.returns
returns c = general_in_class
