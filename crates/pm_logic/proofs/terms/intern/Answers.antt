use Rattle.pm_logic.proofs.EntryLemmas.{Interns-from}
use Rattle.pm_logic.proofs.terms.intern.Goals as goal

pub returns-clause-ok : goal.returns-clause-ok
returns-clause-ok c =
    Interns-from _ _ _ _ _ c.in_ok-row.ensures.keys c.in_ok-row.ensures.stored.1 c.in_ok-row.ensures.stored.2
