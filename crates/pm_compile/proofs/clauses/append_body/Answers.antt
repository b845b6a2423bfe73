use Rattle.std.proofs.Common.{sym, subst}
use Rattle.pm_compile.specs.Inside.Clauses.{IsOver}
use Rattle.pm_compile.proofs.ClauseLemmas.{body-more}
use Rattle.pm_compile.proofs.clauses.append_body.Goals as goal

pub append_goal-requires : goal.append_goal-requires
append_goal-requires c =
    let problem = c.args.source.now.problem.now in
    subst (IsOver problem.symbols problem.terms) (sym c.literal-item.is) (c.requires c.literals.literal-index c.literal-item.result c.literals-test.true)

pub literals-preserved : goal.literals-preserved
literals-preserved c =
    body-more c.args.source.now.problem.now.terms c.args.literals.now c.literals.literal-index c.literal-item.result _ _ _
    c.literals-test.true c.literal-item.is c.literals.invariant c.in_ok-append_goal.ensures
