use Rattle.std.proofs.Common.{sym, subst}
use Rattle.std.specs.declared.cmp.Ordering.{Ordering}
use Rattle.pm_choice.specs.Order.{IsOrderOf}
use Rattle.pm_choice.proofs.OrderLemmas.{compared}
use Rattle.pm_choice.proofs.compare.Goals as goal

pub returns : goal.returns
returns c = subst (λ (r : Ordering). IsOrderOf r c.args.a.now c.args.b.now) (sym c.cmp.ensures) (compared c.args.a.now c.args.b.now)
