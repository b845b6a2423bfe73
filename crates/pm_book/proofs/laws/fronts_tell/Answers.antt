use Rattle.pm_choice.specs.Entries.{entries_of}
use Rattle.pm_book.proofs.Fronts as lemmas
use Rattle.pm_book.proofs.laws.fronts_tell.Goals as goal

pub returns : goal.returns
returns c = λ all marked. lemmas.fronts_tell (entries_of all marked)
