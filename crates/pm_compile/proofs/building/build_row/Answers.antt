use Rattle.std.proofs.Common.{◌≡◌, ◌<◌, List, IsSomeAnd, length, slice_get, sym, ◌∙◌, subst}
use Rattle.pm_logic.specs.Problem.{Symbol}
use Rattle.pm_logic.specs.Row.{Shows}
use Rattle.pm_logic.specs.Term.{Term}
use Rattle.pm_logic.specs.declared.terms.Row.TheVariants.{Var, App}
use Rattle.pm_compile.proofs.BuildLemmas.{ground_built, variable_built, application_opened}
use Rattle.pm_compile.proofs.OverLemmas.{symbol-over, arity-over, args-over}
use Rattle.pm_compile.proofs.building.build_row.Goals as goal

pub returns-then-is_ground : goal.returns-then-is_ground
returns-then-is_ground c =
    ground_built _ _ c.args.row _ _ _ (sym c.is_ground.ensures ∙ c.if-is_ground.true) c.requires.row.0 c.in_ok-push.ensures.items

pub arity-n-requires : goal.arity-n-requires
arity-n-requires c =
    let problem = c.args.source.now.problem.now in
    let shows : Shows problem.terms c.args.row (App c.in-App.symbol c.in-App.args) =
    subst (λ (ts : List Term). Shows ts c.args.row (App c.in-App.symbol c.in-App.args)) c.terms.ensures c.in-App.ensures in
    subst (λ (ss : List Symbol). c.in-App.symbol < length ss) (sym c.symbols.ensures)
    (symbol-over problem.symbols problem.terms c.args.row c.in-App.symbol c.in-App.args.now c.requires.row shows.0)

pub returns-in_ok-push-in-Var : goal.returns-in_ok-push-in-Var
returns-in_ok-push-in-Var c =
    let problem = c.args.source.now.problem.now in
    let shows : Shows problem.terms c.args.row (Var c.in-Var.x) = subst (λ (ts : List Term). Shows ts c.args.row (Var c.in-Var.x)) c.terms.ensures c.in-Var.ensures in
    variable_built _ _ c.args.row c.in-Var.x _ _ _ shows.0 c.in_ok-push-in-Var.ensures.items

pub returns-in_ok-push_builds-in-App : goal.returns-in_ok-push_builds-in-App
returns-in_ok-push_builds-in-App c =
    let problem = c.args.source.now.problem.now in
    let f = c.in-App.symbol in
    let shows : Shows problem.terms c.args.row (App f c.in-App.args) =
    subst (λ (ts : List Term). Shows ts c.args.row (App f c.in-App.args)) c.terms.ensures c.in-App.ensures in
    application_opened _ _ c.args.row f c.arity-n.result c.in-App.args.now _ _ _ _ shows.0 (sym c.is_ground.ensures ∙ c.if-is_ground.false)
    (arity-over problem.symbols problem.terms c.args.row f c.arity-n.result c.in-App.args.now c.requires.row shows.0
    (subst (λ (ss : List Symbol). IsSomeAnd (slice_get ss f) (λ s. s.arity ≡ c.arity-n.result)) c.symbols.ensures c.arity-n.ensures))
    c.in_ok-push-in-App.ensures.items c.in_ok-push_builds-in-App.ensures
    (args-over problem.symbols problem.terms c.args.row f c.in-App.args.now c.requires.row shows.0 shows.1)
