use Rattle.pm_store.proofs.GivenLemmas.{resolved_terms_are_general}
use Rattle.pm_store.proofs.laws.resolved_terms_are_general.Goals as goal

pub returns : goal.returns
returns c = resolved_terms_are_general
