use Rattle.pm_store.proofs.ResolvedLemmas.{row_kept}
use Rattle.pm_store.proofs.GivenLemmas.{given_general}
use Rattle.pm_store.proofs.resolver.Resolver.resolve.Goals as goal

pub returns-else-is_err-clause-general : goal.returns-else-is_err-clause-general
returns-else-is_err-clause-general c =
    given_general c.visit_all-row.result _ _ _ _ c.stores_are_sound.ensures c.requires.within c.visit_all-row.ensures.row c.visit_all-row.ensures.resolved

pub returns-else-is_err-clause-kept : goal.returns-else-is_err-clause-kept
returns-else-is_err-clause-kept c = row_kept _ _ _ _ c.visit_all-row.ensures.more
