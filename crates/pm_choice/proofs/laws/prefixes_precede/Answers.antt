use Rattle.pm_choice.proofs.OrderLemmas.{prefix_precedes}
use Rattle.pm_choice.proofs.laws.prefixes_precede.Goals as goal

pub returns : goal.returns
returns c = prefix_precedes
