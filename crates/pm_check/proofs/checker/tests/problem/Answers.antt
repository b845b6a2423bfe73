use Rattle.std.proofs.Common.{arith, length, ap}
use Rattle.pm_check.proofs.ExampleLemmas.{valid_example}
use Rattle.pm_check.proofs.checker.tests.problem.Goals as goal

pub new-requires-clause-valid : goal.new-requires-clause-valid
new-requires-clause-valid c =
    valid_example c.in_ok-symbols.field-0 c.in_ok-terms.terms c.add_unit-2.new.clauses.items c.in_ok-symbols.ensures c.in_ok-terms.ensures
    (omega (arith, c.in_ok-add_unit-2.ensures.count, c.in_ok-add_unit.ensures.count, c.in_ok-add_tautology.ensures.count, ap length c.new-clauses.ensures.items))
    c.in_ok-add_unit-2.ensures.clauses
