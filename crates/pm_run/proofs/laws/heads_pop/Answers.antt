use Rattle.pm_run.proofs.HeadLemmas.{heads_pop}
use Rattle.pm_run.proofs.laws.heads_pop.Goals as goal

pub returns : goal.returns
returns c = heads_pop
