use Rattle.pm_choice.proofs.OrderLemmas.{order}
use Rattle.pm_choice.proofs.laws.order_is_total.Goals as goal

pub returns : goal.returns
returns c = order
