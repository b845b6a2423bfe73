use Rattle.std.proofs.Common.{[]}
use Rattle.pm_certread.proofs.CutLemmas.{not_numbers}
use Rattle.pm_certread.proofs.words.numbers.Goals as goal

pub returns-in_default : goal.returns-in_default
returns-in_default c = not_numbers c.args.words.now c.loop-word.word-index (record { ref_ptr = (0, 0); now = [] }) c.loop-word-test.true c.in_default.ensures
