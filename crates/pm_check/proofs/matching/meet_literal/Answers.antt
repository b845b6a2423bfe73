use Rattle.pm_check.proofs.MatchingLemmas.{literal_met, same_sign}
use Rattle.pm_check.proofs.matching.meet_literal.Goals as goal

pub returns-clause-answer : goal.returns-clause-answer
returns-clause-answer c =
    literal_met c.args.target.now c.args.images.now.matches c.meet_all.new.images.matches c.args.literal.now c.args.other.now c.as_slice.result.now c.as_slice-2.result.now c.meet_all.result
    c.as_slice.ensures.value c.as_slice-2.ensures.value (same_sign c.args.literal.now.positive c.args.other.now.positive c.if-literal-other.false) c.if-literal-other-2.false c.meet_all.ensures.answer
