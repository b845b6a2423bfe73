use Rattle.pm_tab.proofs.Kept.{args_within, application_told}
use Rattle.pm_tab.proofs.numbers.is_ground.Goals as goal

pub are_ground-requires : goal.are_ground-requires
are_ground-requires c =
    args_within c.args.terms.now c.args.ground.now c.args.id c.in-App.args.now c.requires.ground c.requires.within c.in-App.ensures.1

pub returns-in-App : goal.returns-in-App
returns-in-App c =
    application_told c.args.terms.now c.args.ground.now c.args.id c.in-App.symbol c.in-App.args.now _ c.requires.ground c.in-App.ensures.0
    (args_within c.args.terms.now c.args.ground.now c.args.id c.in-App.args.now c.requires.ground c.requires.within c.in-App.ensures.1) c.are_ground.ensures
