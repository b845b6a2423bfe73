use Rattle.pm_certread.proofs.DeterminedLemmas.{determined_reading}
use Rattle.pm_certread.proofs.laws.readings_are_determined.Goals as goal

pub returns : goal.returns
returns c = determined_reading
