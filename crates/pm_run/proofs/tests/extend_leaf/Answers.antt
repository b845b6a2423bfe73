use Rattle.std.proofs.Common.{sym, subst}
use Rattle.pm_logic.specs.Problem.{Problem}
use Rattle.pm_run.specs.Inside.Example.{HasThreeLiterals}
use Rattle.pm_run.proofs.TestLemmas.{can_meet}
use Rattle.pm_run.proofs.tests.extend_leaf.Goals as goal

pub extend-requires-clause-leaf : goal.extend-requires-clause-leaf
extend-requires-clause-leaf c =
    can_meet c.in_ok-runner.runner.problem.clauses c.args.literal c.args.leaf c.args.store.now c.new.new.store
    (subst (λ (p : Problem). HasThreeLiterals p.clauses) (sym c.in_ok-runner.ensures.problem) c.in_ok-problem.ensures)
    c.requires.literal c.requires.leaf c.in_ok-runner.ensures.later
