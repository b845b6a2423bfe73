use Rattle.std.proofs.Common.{ℕ, ◌++◌, List, sym, ap, ◌∙◌}
use Rattle.pm_write.specs.Inside.Pending.{pending_text}
use Rattle.pm_write.proofs.OverSymbols.{terms-begun}
use Rattle.pm_write.proofs.PendingText.{pending_text-push, rest_text-begun}
use Rattle.pm_write.proofs.terms.begin.Goals as goal

pub returns-in_ok-push-clause-text : goal.returns-in_ok-push-clause-text
returns-in_ok-push-clause-text c symbols terms =
    ap (pending_text symbols terms) c.in_ok-push.ensures.items
    ∙ pending_text-push symbols terms c.args.pending.now.items _
    ∙ ap (λ (t : List ℕ). t ++ pending_text symbols terms c.args.pending.now.items) (rest_text-begun symbols terms c.args.args.now (sym c.is_empty.ensures ∙ c.if-not-is_empty.true))

pub returns-in_ok-push-clause-terms : goal.returns-in_ok-push-clause-terms
returns-in_ok-push-clause-terms c symbols terms = terms-begun symbols terms c.args.pending.now.items _ c.args.args c.in_ok-push.ensures.items
