use Rattle.pm_search.specs.Attempts.{attempts_of}
use Rattle.pm_choice.proofs.EntryLemmas.{first_unique}
use Rattle.pm_search.proofs.laws.first_is_unique.Goals as goal

pub returns : goal.returns
returns g c = λ space. first_unique (attempts_of (g.S.Space.key space))
