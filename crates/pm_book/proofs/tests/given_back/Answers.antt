use Rattle.std.proofs.Common.{◌≡◌, ◌∙◌, ℕ, List, true, ap, sym, subst}
use Rattle.pm_choice.specs.Order.{Precedes, IsWithin}
use Rattle.pm_choice.proofs.OrderLemmas.{irreflexive}
use Rattle.pm_book.specs.Rows.{is_before}
use Rattle.pm_book.proofs.OrderTests.{within_is, before_is}
use Rattle.pm_book.proofs.tests.given_back.Goals as goal

pub give_back-requires-clause-within : goal.give_back-requires-clause-within
give_back-requires-clause-within c =
    subst (λ (l : List ℕ). IsWithin c.args.ticket.from c.args.ticket.to l) c.as_slice.ensures
    (within_is c.args.ticket.from c.as_slice.result.now c.args.ticket.to (sym c.holds.ensures ∙ c.if-not-holds.false))

pub give_back-requires-clause-work : goal.give_back-requires-clause-work
give_back-requires-clause-work c = λ same.
    let after : is_before c.args.ticket.from c.args.at ≡ true =
    ap (λ (l : List ℕ). is_before l c.args.at) (sym c.from.ensures.from) ∙ ap (λ (l : List ℕ). is_before c.from.result.now l) (sym c.as_slice-else-not-holds.ensures) ∙ sym c.is_before.ensures ∙ c.if-not-is_before.false in
    absurd (irreflexive c.args.ticket.from (subst (λ (l : List ℕ). Precedes c.args.ticket.from l) same ((before_is c.args.ticket.from c.args.at).0 after)))
