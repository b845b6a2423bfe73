use Rattle.pm_check.proofs.MatchingLemmas.{application_met}
use Rattle.pm_check.proofs.matching.take_apart.Goals as goal

pub returns-else-symbol-other-clause-answer : goal.returns-else-symbol-other-clause-answer
returns-else-symbol-other-clause-answer c =
    application_met c.args.source.now c.args.target.now c.args.images.now.matches c.meet_all.new.images.matches c.args.found c.in-App.symbol c.in-App-look.other c.in-App.args.now c.in-App-look.others.now c.meet_all.result
    c.requires.found c.requires.there c.in-App.ensures c.in-App-look.ensures c.if-symbol-other.false c.meet_all.ensures.answer
