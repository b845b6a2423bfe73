use Rattle.std.proofs.Common.{length}
use Rattle.pm_lift.proofs.ExampleLemmas.{literals_more, rows_more, predicates_more}
use Rattle.pm_lift.proofs.lift.tests.clause.Goals as goal

pub atoms-preserved : goal.atoms-preserved
atoms-preserved g c =
    let terms = c.args.terms.now in (
      literals_more terms c.atoms.literals.items c.push.new.self.items c.in_ok-literal.field-0 c.args.atoms.now c.atoms.atom-index _ c.atoms-test.true c.in_ok-push.ensures.items c.in_ok-literal.ensures.literal c.atoms.invariant.0,
      rows_more (length terms) c.atoms.literals.items c.push.new.self.items c.in_ok-literal.field-0 c.in_ok-push.ensures.items c.in_ok-literal.ensures.rows c.atoms.invariant.1,
      predicates_more c.args.atoms.now c.atoms.atom-index _ c.atoms-test.true c.in_ok-literal.ensures.predicate c.atoms.invariant.2,
    )
