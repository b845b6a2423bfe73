use Rattle.std.proofs.Common.{◌++◌, codes, decimal}
use Rattle.pm_report.proofs.TextLemmas.{pieces_go_on, pieces_end}
use Rattle.pm_report.proofs.texts.push_choices.Goals as goal

pub loop-choice-preserved : goal.loop-choice-preserved
loop-choice-preserved c = pieces_go_on (λ choice. codes " " ++ decimal choice) c.loop-choice.text.items _ _ c.args.choices.now c.loop-choice.choice-index 0
    c.loop-choice-test.true c.in_ok-push_choice.ensures c.loop-choice.invariant

pub returns : goal.returns
returns c = pieces_end (λ choice. codes " " ++ decimal choice) _ _ c.args.choices.now c.loop-choice.choice-index c.loop-choice-test.false c.loop-choice.invariant
