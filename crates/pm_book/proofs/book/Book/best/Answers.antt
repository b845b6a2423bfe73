use Rattle.std.proofs.Common.{subst}
use Rattle.pm_book.proofs.BestLemmas.{FindsTell, best_tells}
use Rattle.pm_book.proofs.book.Book.best.Goals as goal

pub returns-in-None-clause-none : goal.returns-in-None-clause-none
returns-in-None-clause-none c = subst FindsTell c.self.view_is (best_tells c.self.inside.tables c.self.invariant)

pub returns-in-Some-clause-none : goal.returns-in-Some-clause-none
returns-in-Some-clause-none c = subst FindsTell c.self.view_is (best_tells c.self.inside.tables c.self.invariant)
