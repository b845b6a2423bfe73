use Rattle.pm_contra.proofs.ExampleLemmas.{over_result}
use Rattle.pm_contra.proofs.index.tests.add.Goals as goal

pub returns-clause-over : goal.returns-clause-over
returns-clause-over c =
    over_result c.args.terms.now c.add_app.new.self c.args.symbol c.args.args.now c.add_app.result c.requires.shape c.requires.args c.requires.over c.add_app.ensures.added
