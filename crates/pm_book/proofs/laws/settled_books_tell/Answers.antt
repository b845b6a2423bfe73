use Rattle.pm_choice.specs.Entries.{entries_of}
use Rattle.pm_book.proofs.Exhaustion.{settled_tells}
use Rattle.pm_book.proofs.laws.settled_books_tell.Goals as goal

pub returns : goal.returns
returns c = λ all marked. settled_tells (entries_of all marked)
