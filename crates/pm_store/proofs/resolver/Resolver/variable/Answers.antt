use Rattle.std.proofs.Common.{◌∙◌, sym, ap}
use Rattle.pm_store.specs.Resolved.{row_of}
use Rattle.pm_store.proofs.RowLemmas.{row_among-other}
use Rattle.pm_store.proofs.ResolvedLemmas.{order-known, numbers}
use Rattle.pm_store.proofs.PartLemmas.{rows_variable}
use Rattle.pm_store.proofs.resolver.Resolver.variable.Goals as goal

pub returns-in-Some-clause-order : goal.returns-in-Some-clause-order
returns-in-Some-clause-order c =
    order-known _ _ _ _ _ c.requires.sound c.requires.free c.requires.resolved (sym c.find.ensures ∙ c.in-Some.is)

pub returns-clause-row : goal.returns-clause-row
returns-clause-row c =
    (numbers _ _ _ _ _ _ _ _ _ _ c.requires.sound c.requires.free c.requires.resolved (sym c.find.ensures ∙ c.in_default.is)
    c.in_ok-row.ensures.row c.in_ok-row.ensures.added c.in_ok-note.ensures.ok c.in_ok-push.ensures.items c.self.view_is).noted

pub returns-clause-order : goal.returns-clause-order
returns-clause-order c =
    (numbers _ _ _ _ _ _ _ _ _ _ c.requires.sound c.requires.free c.requires.resolved (sym c.find.ensures ∙ c.in_default.is)
    c.in_ok-row.ensures.row c.in_ok-row.ensures.added c.in_ok-note.ensures.ok c.in_ok-push.ensures.items c.self.view_is).order

pub returns-clause-resolved : goal.returns-clause-resolved
returns-clause-resolved c =
    (numbers _ _ _ _ _ _ _ _ _ _ c.requires.sound c.requires.free c.requires.resolved (sym c.find.ensures ∙ c.in_default.is)
    c.in_ok-row.ensures.row c.in_ok-row.ensures.added c.in_ok-note.ensures.ok c.in_ok-push.ensures.items c.self.view_is).resolved

pub returns-clause-others : goal.returns-clause-others
returns-clause-others c cell other =
    ap (λ r. row_of r cell) c.in_ok-note.ensures.ok ∙ row_among-other c.self.inside.rows.entries c.args.v c.in_ok-row.row cell other
    ∙ ap (λ r. row_of r cell) c.self.view_is

pub returns-clause-rows : goal.returns-clause-rows
returns-clause-rows c =
    let numbered = numbers _ _ _ _ _ _ _ _ _ _ c.requires.sound c.requires.free c.requires.resolved (sym c.find.ensures ∙ c.in_default.is)
    c.in_ok-row.ensures.row c.in_ok-row.ensures.added c.in_ok-note.ensures.ok c.in_ok-push.ensures.items c.self.view_is in
    rows_variable _ _ _ _ _ c.note.new.self _ c.in_ok-row.ensures.added c.in_ok-row.ensures.row numbered.resolved numbered.noted
