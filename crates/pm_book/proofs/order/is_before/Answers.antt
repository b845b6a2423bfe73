use Rattle.std.proofs.Common.{◌∙◌}
use Rattle.pm_book.proofs.OrderTests.{order_tells}
use Rattle.pm_book.proofs.order.is_before.Goals as goal

pub returns : goal.returns
returns c = c.is_lt.ensures ∙ order_tells c.compare.result c.args.list.now c.args.other.now c.compare.ensures
