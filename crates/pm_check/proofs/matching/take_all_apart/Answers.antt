use Rattle.std.proofs.Common.{◌∙◌, arith}
use Rattle.pm_check.proofs.MatchingLemmas.{takes_more, takes_all, none_up_to}
use Rattle.pm_check.proofs.matching.take_all_apart.Goals as goal

pub returns-then-not-take_apart-clause-answer : goal.returns-then-not-take_apart-clause-answer
returns-then-not-take_apart-clause-answer c =
    none_up_to c.args.source.now c.args.target.now c.args.images.now.matches c.matches.images.matches c.matches.next c.matches.invariant.0 c.if-not-take_apart.ensures.answer

pub matches-preserved : goal.matches-preserved
matches-preserved c = (
  takes_more c.args.source.now c.args.target.now c.args.images.now.matches c.matches.images.matches c.take_apart.new.images.matches c.matches.next c.at-found.result c.matches.invariant.0 c.at-found.ensures c.if-not-take_apart.ensures.answer,
  c.take_apart.ensures.count ∙ c.matches.invariant.1,
)

pub returns-clause-answer : goal.returns-clause-answer
returns-clause-answer c =
    takes_all c.args.source.now c.args.target.now c.args.images.now.matches c.matches.images.matches c.matches.next (omega (arith, c.matches-test.false, c.len.ensures.count)) c.len.ensures.single c.matches.invariant.0
