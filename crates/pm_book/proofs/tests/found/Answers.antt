use Rattle.std.proofs.Common.{◌∙◌, ℕ, List, sym, subst}
use Rattle.pm_choice.specs.Order.{IsWithin}
use Rattle.pm_book.proofs.OrderTests.{within_is}
use Rattle.pm_book.proofs.tests.found.Goals as goal

pub found-requires : goal.found-requires
found-requires c =
    subst (λ (l : List ℕ). IsWithin c.args.ticket.from c.args.ticket.to l) c.as_slice.ensures
    (within_is c.args.ticket.from c.as_slice.result.now c.args.ticket.to (sym c.holds.ensures ∙ c.if-not-holds.false))
