use Rattle.std.proofs.Common.{◌∙◌, ap, ◌++◌, get_or, arith}
use Rattle.pm_logic.specs.Word.{escaped, quoted}
use Rattle.pm_logic.proofs.WordLemmas.{take-begin, take-old, begun, begun-more, begun-end}
use Rattle.pm_logic.proofs.words.quote.Goals as goal

pub returns-in_err-escape-clause-err : goal.returns-in_err-escape-clause-err
returns-in_err-escape-clause-err c =
    take-begin c.args.into.now.items c.loop-byte.into.items c.escape.new.into.items (begun c.args.text.now c.loop-byte.byte-index)
    c.loop-byte.invariant c.in_err-escape.ensures.err

pub returns-in_err-push-2-clause-err : goal.returns-in_err-push-2-clause-err
returns-in_err-push-2-clause-err c = take-old c.args.into.now.items _ _ (c.in_err-push-2.ensures.items ∙ c.loop-byte.invariant)

pub returns-clause-ok : goal.returns-clause-ok
returns-clause-ok c =
    c.in_ok-push-2.ensures.items
    ∙ begun-end c.args.into.now.items c.args.text.now c.loop-byte.into.items c.loop-byte.byte-index c.loop-byte.invariant (omega (arith, c.loop-byte-test.false))

pub returns-clause-err : goal.returns-clause-err
returns-clause-err c =
    take-old c.args.into.now.items _ (quoted c.args.text.now)
    (c.in_ok-push-2.ensures.items
    ∙ begun-end c.args.into.now.items c.args.text.now c.loop-byte.into.items c.loop-byte.byte-index c.loop-byte.invariant (omega (arith, c.loop-byte-test.false)))

pub loop-byte-preserved : goal.loop-byte-preserved
loop-byte-preserved c =
    c.in_ok-escape.ensures.ok
    ∙ ap (λ xs. xs ++ escaped (get_or c.args.text.now c.loop-byte.byte-index 0)) c.loop-byte.invariant
    ∙ begun-more c.args.into.now.items c.args.text.now c.loop-byte.byte-index 0 c.loop-byte-test.true
