use Rattle.std.proofs.Common.{refl, arith}
use Rattle.pm_certread.proofs.TermLemmas.{below_more, below_all}
use Rattle.pm_certread.proofs.terms.are_below.Goals as goal

pub loop-number-preserved : goal.loop-number-preserved
loop-number-preserved c = below_more c.args.bound c.args.numbers.now c.loop-number.number-index c.loop-number-test.true c.loop-number.invariant (omega arith)

pub returns : goal.returns
returns c = (λ _. below_all c.args.bound c.args.numbers.now c.loop-number.number-index c.loop-number-test.false c.loop-number.invariant, λ _. refl)
