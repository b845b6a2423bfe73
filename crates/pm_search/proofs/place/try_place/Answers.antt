use Rattle.std.proofs.Common.{◌-◌, arith}
use Rattle.pm_search.proofs.StepLemmas.{passed_beside, tried_reached}
use Rattle.pm_search.proofs.place.try_place.Goals as goal

pub returns-then-not-branch-clause-ok : goal.returns-then-not-branch-clause-ok
returns-then-not-branch-clause-ok g c =
    passed_beside (g.S.Space.key c.args.space.now) (g.met.S.Space.is_key c.args.space.now) (g.S.Space.path c.args.space.now) (g.S.Space.path c.step.new.self) c.args.place.now.items c.args.widths.now.items c.index-choice.result.now (c.len-last.result - 1) c.in_ok-step.field-0
    c.requires.place c.requires.attempt (omega (arith, c.args.place.now.ok.0)) c.index-choice.ensures c.if-not-branch.true c.in_ok-step.ensures.reached c.in_ok-step.ensures.path

pub returns-in-Ok-clause-ok : goal.returns-in-Ok-clause-ok
returns-in-Ok-clause-ok g c =
    tried_reached (g.S.Space.key c.args.space.now) (g.S.Space.key c.step.new.self) c.in_ok-step.ensures.key (g.S.Space.path c.args.space.now) (g.S.Space.path c.step.new.self) c.args.place.now.items c.args.widths.now.items c.enter.new.place.items c.enter.new.widths.items c.index-choice.result.now (c.len-last.result - 1) c.in_ok-step.field-0 c.in-Ok.found
    c.requires.place (omega (arith, c.args.place.now.ok.0)) c.index-choice.ensures c.if-not-branch.false c.in_ok-step.ensures.path c.in-Ok.ensures.ok
