use Rattle.pm_choice.proofs.OrderLemmas.{intervals}
use Rattle.pm_choice.proofs.laws.intervals_join.Goals as goal

pub returns : goal.returns
returns c = intervals
