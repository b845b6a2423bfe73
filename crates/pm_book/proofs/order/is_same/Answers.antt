use Rattle.std.proofs.Common.{◌∙◌, sym}
use Rattle.pm_book.proofs.OrderTests.{order_equal}
use Rattle.pm_book.proofs.order.is_same.Goals as goal

pub returns : goal.returns
returns c =
    let is = order_equal c.compare.result c.args.list.now c.args.other.now c.compare.ensures in
    (λ e. is.0 (sym c.is_eq.ensures ∙ e), λ same. c.is_eq.ensures ∙ is.1 same)
