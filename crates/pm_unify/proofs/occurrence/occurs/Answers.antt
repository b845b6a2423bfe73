use Rattle.pm_unify.proofs.OccurrenceLemmas.{occurs_in_variable}
use Rattle.pm_unify.proofs.occurrence.occurs.Goals as goal

pub returns-in-Free : goal.returns-in-Free
returns-in-Free c =
    occurs_in_variable _ _ _ c.in-Free.w _ c.requires.sound c.in-Free.ensures.shown.1 c.in-Free.ensures.tree c.eq.ensures
