use Rattle.pm_calculus.proofs.Unique.{general_unique}
use Rattle.pm_calculus.proofs.laws.general_tableaux_are_unique.Goals as goal

pub returns : goal.returns
returns c = general_unique
