use Rattle.pm_certread.proofs.CutLemmas.{behind_word, cut_on, cut_last}
use Rattle.pm_certread.proofs.words.words_of.Goals as goal

pub words-preserved : goal.words-preserved
words-preserved c = (
  cut_on c.words.words.items c.push.new.self.items c.args.line.now c.words.rest.now _ c.split_at.result.0 c.words.end
      c.words.invariant.1 c.words-test.true c.split_at.ensures.front (behind_word c.words.rest.now c.split_at.result.1.now c.words.end c.split_at.ensures.back)
      c.in_ok-push.ensures.items c.words.invariant.0,
  c.first_length-end-in-words.ensures.is,
)

pub returns : goal.returns
returns c =
    cut_last c.words.words.items c.push-2.new.self.items c.args.line.now c.words.rest c.words.end
    c.words.invariant.1 c.words-test.false c.in_ok-push-2.ensures.items c.words.invariant.0
