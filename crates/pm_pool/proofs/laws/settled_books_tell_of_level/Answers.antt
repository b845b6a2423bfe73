use Rattle.pm_search.specs.Attempts.{attempts_of}
use Rattle.pm_book.proofs.Exhaustion.{settled_tells}
use Rattle.pm_pool.proofs.laws.settled_books_tell_of_level.Goals as goal

pub returns : goal.returns
returns g c = λ space. settled_tells (attempts_of (g.S.Space.key space))
