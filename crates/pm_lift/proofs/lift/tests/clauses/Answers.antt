use Rattle.std.proofs.Common.{length}
use Rattle.pm_lift.proofs.ExampleLemmas.{clauses_more, clause_rows_more, few_more}
use Rattle.pm_lift.proofs.lift.tests.clauses.Goals as goal

pub lists-preserved : goal.lists-preserved
lists-preserved g c =
    let terms = c.args.terms.now in (
      clauses_more terms c.lists.clauses.items c.push.new.self.items c.in_ok-clause.field-0 c.args.lists.now c.lists.atoms-index _ c.lists-test.true c.in_ok-push.ensures.items c.in_ok-clause.ensures.clause c.lists.invariant.0,
      clause_rows_more (length terms) c.lists.clauses.items c.push.new.self.items c.in_ok-clause.field-0 c.in_ok-push.ensures.items c.in_ok-clause.ensures.rows c.lists.invariant.1,
      few_more c.args.lists.now c.lists.atoms-index _ c.lists-test.true c.in_ok-clause.ensures.few c.lists.invariant.2,
    )
