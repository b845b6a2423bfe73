use Rattle.std.proofs.Common.{◌≡◌, ◌<◌, List, IsSomeAnd, length, slice_get, sym, ◌∙◌, subst, arith}
use Rattle.pm_logic.specs.Problem.{Symbol}
use Rattle.pm_logic.specs.Row.{Shows}
use Rattle.pm_logic.specs.Term.{Term}
use Rattle.pm_logic.specs.declared.terms.Row.TheVariants.{Var, App}
use Rattle.pm_compile.proofs.HeadLemmas.{ground_met, variable_met, application_met, rows_opened}
use Rattle.pm_compile.proofs.OverLemmas.{variables-few, symbol-over, arity-over, args-over}
use Rattle.pm_compile.proofs.heads.meet.Goals as goal

pub returns-then-is_ground-clause-step : goal.returns-then-is_ground-clause-step
returns-then-is_ground-clause-step c =
    ground_met _ _ c.args.row _ _ _ (sym c.is_ground.ensures ∙ c.if-is_ground.true) c.requires.row.0 c.in_ok-push.ensures.items

pub occur-requires-clause-within : goal.occur-requires-clause-within
occur-requires-clause-within c =
    let terms = c.args.source.now.problem.now.terms in
    let shows : Shows terms c.args.row (Var c.in-Var.x) = subst (λ (ts : List Term). Shows ts c.args.row (Var c.in-Var.x)) c.terms.ensures c.in-Var.ensures in
    omega (arith, shows.1, variables-few terms, c.requires.count)

pub arity-n-requires : goal.arity-n-requires
arity-n-requires c =
    let problem = c.args.source.now.problem.now in
    let shows : Shows problem.terms c.args.row (App c.in-App.symbol c.in-App.args) =
    subst (λ (ts : List Term). Shows ts c.args.row (App c.in-App.symbol c.in-App.args)) c.terms.ensures c.in-App.ensures in
    subst (λ (ss : List Symbol). c.in-App.symbol < length ss) (sym c.symbols.ensures)
    (symbol-over problem.symbols problem.terms c.args.row c.in-App.symbol c.in-App.args.now c.requires.row shows.0)

pub returns-in_ok-push-in-Var-clause-step : goal.returns-in_ok-push-in-Var-clause-step
returns-in_ok-push-in-Var-clause-step c =
    let terms = c.args.source.now.problem.now.terms in
    let shows : Shows terms c.args.row (Var c.in-Var.x) = subst (λ (ts : List Term). Shows ts c.args.row (Var c.in-Var.x)) c.terms.ensures c.in-Var.ensures in
    variable_met terms _ _ c.args.row c.in-Var.x _ _ _ c.occur.result shows.0 c.in_ok-push-in-Var.ensures.items (c.occur.ensures.row (length terms))
    c.occur.ensures.head c.occur.ensures.count (c.occur.ensures.instr terms) c.occur.ensures.seen

pub returns-in_ok-push_rows-in-App-clause-step : goal.returns-in_ok-push_rows-in-App-clause-step
returns-in_ok-push_rows-in-App-clause-step c =
    let problem = c.args.source.now.problem.now in
    let f = c.in-App.symbol in
    let shows : Shows problem.terms c.args.row (App f c.in-App.args) =
    subst (λ (ts : List Term). Shows ts c.args.row (App f c.in-App.args)) c.terms.ensures c.in-App.ensures in
    application_met problem.terms _ c.args.row f c.arity-n.result c.in-App.args.now _ _ _ _ shows.0 (sym c.is_ground.ensures ∙ c.if-is_ground.false)
    (arity-over problem.symbols problem.terms c.args.row f c.arity-n.result c.in-App.args.now c.requires.row shows.0
    (subst (λ (ss : List Symbol). IsSomeAnd (slice_get ss f) (λ s. s.arity ≡ c.arity-n.result)) c.symbols.ensures c.arity-n.ensures))
    c.in_ok-push-in-App.ensures.items c.in_ok-push_rows-in-App.ensures

pub returns-in_ok-push_rows-in-App-clause-rows : goal.returns-in_ok-push_rows-in-App-clause-rows
returns-in_ok-push_rows-in-App-clause-rows c =
    let problem = c.args.source.now.problem.now in
    let shows : Shows problem.terms c.args.row (App c.in-App.symbol c.in-App.args) =
    subst (λ (ts : List Term). Shows ts c.args.row (App c.in-App.symbol c.in-App.args)) c.terms.ensures c.in-App.ensures in
    rows_opened problem.symbols problem.terms _ _ _ c.in_ok-push_rows-in-App.ensures
    (args-over problem.symbols problem.terms c.args.row c.in-App.symbol c.in-App.args.now c.requires.row shows.0 shows.1)
