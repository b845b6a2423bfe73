use Rattle.std.proofs.Common.{sym, ◌∙◌}
use Rattle.pm_store.proofs.ListLemmas.{other_from_test}
use Rattle.pm_diseq.proofs.TrialLemmas.{lacks_variable, lacks_application}
use Rattle.pm_diseq.proofs.trials.lacks.Goals as goal

pub returns-in-Free : goal.returns-in-Free
returns-in-Free c = λ answer.
    lacks_variable c.args.store.now c.args.t c.args.v c.in-Free.w c.in-Free.ensures.sound c.in-Free.ensures.shown.1 c.in-Free.ensures.tree
    (other_from_test _ _ (sym c.ne.ensures ∙ answer))

pub returns-in-App : goal.returns-in-App
returns-in-App c = λ answer.
    lacks_application c.args.store.now c.args.t c.args.v c.in-App.symbol c.in-App.args.now c.in-App.ensures.tree (c.lacks_each.ensures answer)
