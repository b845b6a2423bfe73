use Rattle.pm_search.specs.Attempts.{attempts_of}
use Rattle.pm_choice.proofs.EntryLemmas.{entries_unique}
use Rattle.pm_search.proofs.laws.attempts_are_unique.Goals as goal

pub returns : goal.returns
returns g c = λ space. entries_unique (attempts_of (g.S.Space.key space))
