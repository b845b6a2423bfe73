use Rattle.std.proofs.Common.{arith}
use Rattle.pm_contra.proofs.ExampleLemmas.{rows_of_examples, valid_examples}
use Rattle.pm_contra.proofs.index.tests.problem.Goals as goal

pub new-requires-clause-rows : goal.new-requires-clause-rows
new-requires-clause-rows g c = rows_of_examples _ _ c.in_ok-clauses.ensures.each

pub new-requires-clause-valid : goal.new-requires-clause-valid
new-requires-clause-valid g c =
    valid_examples _ _ _ c.in_ok-symbols.ensures c.in_ok-terms.ensures (omega (arith, c.in_ok-clauses.ensures.count)) c.in_ok-clauses.ensures.each
