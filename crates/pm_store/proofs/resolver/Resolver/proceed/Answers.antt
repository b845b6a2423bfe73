use Rattle.std.proofs.Common.{OnOk, sym, subst}
use Rattle.pm_store.specs.declared.resolver.Place.{Place}
use Rattle.pm_store.specs.Inside.Pending.{cell_of, AddsRowsOf}
use Rattle.pm_store.proofs.resolver.Resolver.proceed.Goals as goal

pub returns-in-Visit-clause-rows : goal.returns-in-Visit-clause-rows
returns-in-Visit-clause-rows c =
    subst (λ (p : Place). OnOk c.visit.result (AddsRowsOf c.args.store.now (cell_of p) c.args.into.now c.visit.new.self c.visit.new.into)) (sym c.in-Visit.is) c.visit.ensures.rows

pub returns-in-Build-clause-rows : goal.returns-in-Build-clause-rows
returns-in-Build-clause-rows c =
    subst (λ (p : Place). OnOk c.build.result (AddsRowsOf c.args.store.now (cell_of p) c.args.into.now c.build.new.self c.build.new.into)) (sym c.in-Build.is) c.build.ensures.rows
