use Rattle.pm_choice.proofs.OrderLemmas.{same_bound}
use Rattle.pm_choice.proofs.Bound.is_same.Goals as goal

pub returns-in-At-other : goal.returns-in-At-other
returns-in-At-other c =
    same_bound c.compare.result c.in-At.list c.in-At-other.end c.as_slice.result.now c.as_slice-in-At-other.result.now c.args.self.now c.args.other.now c.is_eq.result
    c.in-At.is c.in-At-other.is c.as_slice.ensures c.as_slice-in-At-other.ensures c.compare.ensures c.is_eq.ensures
