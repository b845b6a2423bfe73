use Rattle.pm_store.proofs.GivenLemmas.{resolved_terms_solve}
use Rattle.pm_store.proofs.laws.resolved_terms_solve.Goals as goal

pub returns : goal.returns
returns c = resolved_terms_solve
