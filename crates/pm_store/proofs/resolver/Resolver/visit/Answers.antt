use Rattle.std.proofs.Common.{◌∙◌, ◌++◌, refl, sym, ap}
use Rattle.std.proofs.lemmas.Result.{on_ok_weaker}
use Rattle.pm_store.proofs.ListLemmas.{same_from_test, other_from_test}
use Rattle.pm_store.proofs.ResolvedLemmas.{has_value, some_of, none_of}
use Rattle.pm_store.proofs.VisitLemmas.{proceeds-known, proceeds-variable, proceeds-bound, proceeds-opened}
use Rattle.pm_store.specs.Resolved.{Resolved, row_of, with_variables}
use Rattle.pm_store.specs.Inside.Pending.{visits}
use Rattle.pm_store.proofs.PartLemmas.{rows_same, places_opened}
use Rattle.pm_store.proofs.resolver.Resolver.visit.Goals as goal

pub returns-then-is_some-clause-ok : goal.returns-then-is_some-clause-ok
returns-then-is_some-clause-ok c =
    proceeds-known _ _ _ _ _ c.requires.resolved (some_of _ _ c.find.ensures (sym c.is_some.ensures ∙ c.if-is_some.true))

pub note-requires : goal.note-requires
note-requires c =
    c.in_ok-row-in-Free.ensures.others c.args.cell (other_from_test _ _ (sym c.ne.ensures ∙ c.if-ne.true))
    ∙ none_of _ _ c.find.ensures (sym c.is_some.ensures ∙ c.if-is_some.false)

pub returns-in_ok-note-in-Free-clause-ok : goal.returns-in_ok-note-in-Free-clause-ok
returns-in_ok-note-in-Free-clause-ok c =
    let none = c.in_ok-row-in-Free.ensures.others c.args.cell (other_from_test _ _ (sym c.ne.ensures ∙ c.if-ne.true))
    ∙ none_of _ _ c.find.ensures (sym c.is_some.ensures ∙ c.if-is_some.false) in
    proceeds-bound _ _ _ _ _ _ _ _ _ _ c.in_ok-row-in-Free.ensures.resolved c.variable.ensures.more c.in-Free.ensures.tree c.in_ok-row-in-Free.ensures.row none
    c.in_ok-row-in-Free.ensures.order c.in_ok-note-in-Free.ensures.ok

pub returns-else-ne-clause-ok : goal.returns-else-ne-clause-ok
returns-else-ne-clause-ok c =
    let same = same_from_test c.args.cell c.in-Free.v (sym c.ne.ensures ∙ c.if-ne.false) in
    proceeds-variable _ _ _ _ _ _ _ c.in_ok-row-in-Free.ensures.resolved c.variable.ensures.more
    (has_value _ _ (ap (row_of c.variable.new.self) same ∙ c.in_ok-row-in-Free.ensures.row))
    (c.in_ok-row-in-Free.ensures.order ∙ ap (with_variables c.args.self.now.free) (sym c.in-Free.ensures.tree))

pub returns-in_ok-push-in-App-clause-ok : goal.returns-in_ok-push-in-App-clause-ok
returns-in_ok-push-in-App-clause-ok c =
    on_ok_weaker c.push_visits.result
    (λ added. proceeds-opened _ _ _ _ _ _ c.in-App.symbol c.in-App.args.now c.requires.within c.in-App.ensures.shown.0 c.in-App.ensures.shown.1 c.in-App.ensures.tree
    (added ∙ ap (λ ps. ps ++ visits c.in-App.args.now) c.in_ok-push-in-App.ensures.items))
    c.push_visits.ensures

pub returns-in_ok-note-in-Free-clause-rows : goal.returns-in_ok-note-in-Free-clause-rows
returns-in_ok-note-in-Free-clause-rows c =
    rows_same c.args.store.now c.args.cell c.in-Free.v c.args.into.now c.variable.new.into c.variable.new.self c.note.new.self c.in-Free.ensures.tree
    (ap (λ (r : Resolved). r.free) c.in_ok-note-in-Free.ensures.ok) c.in_ok-row-in-Free.ensures.rows

pub returns-else-ne-clause-rows : goal.returns-else-ne-clause-rows
returns-else-ne-clause-rows c =
    rows_same c.args.store.now c.args.cell c.in-Free.v c.args.into.now c.variable.new.into c.variable.new.self c.variable.new.self c.in-Free.ensures.tree
    refl c.in_ok-row-in-Free.ensures.rows

pub returns-in_ok-push-in-App-clause-places : goal.returns-in_ok-push-in-App-clause-places
returns-in_ok-push-in-App-clause-places c =
    on_ok_weaker c.push_visits.result
    (λ added. places_opened c.args.store.now c.args.pending.now.items c.push_visits.new.pending.items c.args.cell c.in-App.symbol c.in-App.args.now c.in-App.ensures.tree
    (added ∙ ap (λ ps. ps ++ visits c.in-App.args.now) c.in_ok-push-in-App.ensures.items))
    c.push_visits.ensures
