use Rattle.pm_search.specs.Attempts.{attempts_of}
use Rattle.pm_choice.proofs.EntryLemmas.{intervals_join}
use Rattle.pm_search.proofs.laws.attempts_join.Goals as goal

pub returns : goal.returns
returns g c = λ space. intervals_join (attempts_of (g.S.Space.key space))
