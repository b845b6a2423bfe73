use Rattle.std.proofs.Common.{sym, subst}
use Rattle.pm_compile.specs.declared.building.Place.{Place}
use Rattle.pm_compile.specs.Inside.Building.{BuildStep}
use Rattle.pm_compile.proofs.BuildLemmas.{application_made}
use Rattle.pm_compile.proofs.building.build.Goals as goal

pub returns-in_ok-push-in-Made : goal.returns-in_ok-push-in-Made
returns-in_ok-push-in-Made c =
    let problem = c.args.source.now.problem.now in
    subst (λ (p : Place). BuildStep problem.symbols problem.terms p c.args.pending.now.items c.args.instrs.now.items c.args.pending.now.items c.push.new.self.items)
    (sym c.in-Made.is) (application_made _ _ c.in-Made.f c.in-Made.n _ _ _ c.in_ok-push-in-Made.ensures.items)
