use Rattle.pm_book.proofs.BookLemmas.{always_of}
use Rattle.pm_book.proofs.book.Book.rows.Goals as goal

pub returns-clause-always : goal.returns-clause-always
returns-clause-always c = rw (← c.self.view_is) (always_of c.self.inside.tables c.self.invariant)
