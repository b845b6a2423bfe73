use Rattle.pm_search.proofs.AttemptLemmas as lemmas
use Rattle.pm_search.proofs.laws.complete_is_attempt.Goals as goal

pub returns : goal.returns
returns g c = λ space. lemmas.complete_is_attempt (g.S.Space.key space) (g.met.S.Space.is_key space)
