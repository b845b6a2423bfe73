use Rattle.std.proofs.Common.{◌≡◌, ◌<◌, List, All, IsSomeAnd, length, slice_get, sym, subst}
use Rattle.pm_logic.specs.Problem.{Symbol}
use Rattle.pm_compile.specs.Inside.Ground.{IsRowOver}
use Rattle.pm_compile.proofs.ClauseLemmas.{goal-added}
use Rattle.pm_compile.proofs.OverLemmas.{literal_args-over, predicate-over, predicate_arity-over}
use Rattle.pm_compile.proofs.clauses.append_goal.Goals as goal

pub append_building-requires : goal.append_building-requires
append_building-requires c =
    let problem = c.args.source.now.problem.now in
    record {
      args = subst (All (IsRowOver problem.symbols problem.terms)) (sym c.deref.ensures.value) (literal_args-over problem.symbols problem.terms c.args.literal.now c.requires);
    }

pub arity-requires : goal.arity-requires
arity-requires c =
    let problem = c.args.source.now.problem.now in
    let literal = c.args.literal.now in
    subst (λ (ss : List Symbol). literal.predicate < length ss) (sym c.symbols.ensures) (predicate-over problem.symbols problem.terms literal c.requires)

pub returns : goal.returns
returns c =
    let problem = c.args.source.now.problem.now in
    let literal = c.args.literal.now in
    goal-added problem.terms literal c.deref.result.now c.arity.result _ _ _ c.deref.ensures.value
    (predicate_arity-over problem.symbols problem.terms literal c.arity.result c.requires
    (subst (λ (ss : List Symbol). IsSomeAnd (slice_get ss literal.predicate) (λ s. s.arity ≡ c.arity.result)) c.symbols.ensures c.arity.ensures))
    c.in_ok-append_building.ensures c.in_ok-push.ensures.items
