use Rattle.std.proofs.Common.{sym, ◌∙◌}
use Rattle.pm_cert.proofs.ListingLemmas.{step-skip, step-open, size-same, size-open}
use Rattle.pm_cert.proofs.list.enter.Goals as goal

pub returns-then-contains-clause-steps : goal.returns-then-contains-clause-steps
returns-then-contains-clause-steps c finished are =
    step-skip c.args.terms.now finished c.args.row c.args.list.now.keys _ c.requires are (sym c.contains.ensures ∙ c.if-contains.true)

pub returns-then-contains-clause-size : goal.returns-then-contains-clause-size
returns-then-contains-clause-size c = size-same c.args.terms.now c.args.row c.args.opened.now.items

pub returns-in_ok-push-in-App-clause-steps : goal.returns-in_ok-push-in-App-clause-steps
returns-in_ok-push-in-App-clause-steps c finished are =
    step-open c.args.terms.now finished c.args.row c.args.list.now.keys c.in-App.symbol c.args.opened.now.items _ _ c.row.ensures c.in-App.ensures.0 c.in_ok-push-in-App.ensures.items are

pub returns-in_ok-push-in-App-clause-size : goal.returns-in_ok-push-in-App-clause-size
returns-in_ok-push-in-App-clause-size c =
    size-open c.args.terms.now c.args.row c.in-App.symbol c.args.opened.now.items _ _ c.in-App.ensures.0 c.in_ok-push-in-App.ensures.items
