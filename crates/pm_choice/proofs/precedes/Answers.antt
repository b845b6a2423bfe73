use Rattle.pm_choice.proofs.OrderLemmas.{precedes_at}
use Rattle.pm_choice.proofs.precedes.Goals as goal

pub returns-in-At : goal.returns-in-At
returns-in-At c = precedes_at c.compare.result c.args.list.now c.in-At.end c.as_slice.result.now c.args.bound.now c.is_lt.result c.in-At.is c.as_slice.ensures c.compare.ensures c.is_lt.ensures
