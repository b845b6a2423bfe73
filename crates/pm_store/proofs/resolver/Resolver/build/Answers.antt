use Rattle.std.proofs.Common.{Some, map, ◌∙◌, refl, sym, ap}
use Rattle.pm_store.proofs.ResolvedLemmas.{some_of, none_of}
use Rattle.pm_store.proofs.BuildLemmas.{rows_within, args_ready, proceeds-built, builds}
use Rattle.pm_store.specs.Resolved.{Resolved}
use Rattle.pm_store.proofs.PartLemmas.{rows_built}
use Rattle.pm_store.proofs.resolver.Resolver.build.Goals as goal

pub returns-then-is_some-clause-ok : goal.returns-then-is_some-clause-ok
returns-then-is_some-clause-ok c = λ ps.
    proceeds-built _ _ _ _ _ ps _ c.requires.resolved (λ d there. there)
    (some_of _ _ c.find.ensures (sym c.is_some.ensures ∙ c.if-is_some.true)) refl

pub add_app-requires : goal.add_app-requires
add_app-requires c = rows_within _ _ _ c.requires.resolved c.in-App.args.now _ (ap (map Some) c.deref.ensures.value ∙ c.in_ok-rows.ensures)

pub returns-in_ok-note-clause-ok : goal.returns-in_ok-note-clause-ok
returns-in_ok-note-clause-ok c =
    builds _ _ _ _ _ _ _ c.in-App.args.now _ _ c.requires.resolved (args_ready c.args.store.now c.args.self.now _ c.in-App.symbol c.in-App.args.now c.requires.ready c.in-App.ensures.shown.0)
    (ap (map Some) c.deref.ensures.value ∙ c.in_ok-rows.ensures) c.in-App.ensures.tree c.in_ok-row.ensures.added
    (none_of _ _ c.find.ensures (sym c.is_some.ensures ∙ c.if-is_some.false)) c.in_ok-note.ensures.ok

pub returns-in_ok-note-clause-rows : goal.returns-in_ok-note-clause-rows
returns-in_ok-note-clause-rows c =
    rows_built _ _ c.note.new.self _ _ _ _ c.in-App.args.now _ _ c.requires.resolved (args_ready c.args.store.now c.args.self.now _ c.in-App.symbol c.in-App.args.now c.requires.ready c.in-App.ensures.shown.0)
    (ap (map Some) c.deref.ensures.value ∙ c.in_ok-rows.ensures) c.in-App.ensures.tree c.in_ok-row.ensures.added (ap (λ (r : Resolved). r.free) c.in_ok-note.ensures.ok)
