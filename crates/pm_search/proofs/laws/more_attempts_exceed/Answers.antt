use Rattle.pm_search.proofs.WorkLemmas.{more_exceeds}
use Rattle.pm_search.proofs.laws.more_attempts_exceed.Goals as goal

pub returns : goal.returns
returns g c = λ space. more_exceeds (g.S.Space.key space)
