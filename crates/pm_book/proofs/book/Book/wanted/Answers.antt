use Rattle.std.proofs.Common.{◌∙◌, ap, List, ℕ}
use Rattle.pm_book.specs.Rows.{is_above}
use Rattle.pm_book.specs.Inside.Seen.{seen}
use Rattle.pm_book.proofs.BookLemmas.{always_of, wanted_is}
use Rattle.pm_book.proofs.book.Book.wanted.Goals as goal

pub locate-requires-clause-always : goal.locate-requires-clause-always
locate-requires-clause-always c = always_of c.self.inside.tables c.self.invariant

pub returns-in-Some : goal.returns-in-Some
returns-in-Some c =
    rw (← c.self.view_is)
    (wanted_is c.self.inside.tables c.args.ticket.now c.in-Some.field-0 c.is_above.result c.in-Some.ensures
    (c.is_above.ensures ∙ ap (λ (l : List ℕ). is_above (seen c.self.inside.tables).best l) c.from.ensures.from))
