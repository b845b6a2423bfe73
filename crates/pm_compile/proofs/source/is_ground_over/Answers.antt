use Rattle.pm_compile.proofs.GroundLemmas.{ground_over}
use Rattle.pm_compile.proofs.source.is_ground_over.Goals as goal

pub returns-in-App : goal.returns-in-App
returns-in-App c =
    ground_over c.args.terms.now c.args.ground.now.keys c.args.id c.in-App.symbol c.in-App.args.now _ c.in-App.ensures.0 c.in-App.ensures.1 c.requires.ground c.has_rows.ensures
