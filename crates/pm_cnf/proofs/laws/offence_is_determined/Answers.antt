use Rattle.pm_cnf.proofs.meaning.Determined.{offence_is_determined}
use Rattle.pm_cnf.proofs.laws.offence_is_determined.Goals as goal

pub returns : goal.returns
returns c = offence_is_determined
