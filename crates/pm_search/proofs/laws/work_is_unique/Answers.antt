use Rattle.pm_search.proofs.WorkLemmas.{one_work}
use Rattle.pm_search.proofs.laws.work_is_unique.Goals as goal

pub returns : goal.returns
returns g c = λ space. one_work (g.S.Space.key space)
