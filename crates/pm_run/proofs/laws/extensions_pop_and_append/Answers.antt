use Rattle.pm_run.proofs.BuildLemmas.{extensions_pop_and_append}
use Rattle.pm_run.proofs.laws.extensions_pop_and_append.Goals as goal

pub returns : goal.returns
returns c = extensions_pop_and_append
