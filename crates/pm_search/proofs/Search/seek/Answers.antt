use Rattle.pm_search.specs.Inside.Places.{Holds}
use Rattle.pm_search.proofs.AgreeLemmas.{agree_sym, holds_agrees}
use Rattle.pm_search.proofs.StandingLemmas.{sought, is_ahead, same_below_agrees, is_ahead_agrees}
use Rattle.pm_search.proofs.Search.seek.Goals as goal
use Rattle.pm_search.proofs.Search.seek.Goals.{After-settle-stage}

holds : (g : _) (c : After-settle-stage g)
    → Holds (g.S.Space.key c.descend.new.space) (g.S.Space.path c.settle-stage.new.space) c.settle-stage.new.place.items c.settle-stage.new.widths.items c.in_ok-from.from c.args.to 0 c.settle-stage.result
holds g c =
    let down = same_below_agrees (g.S.Space.key c.descend.new.space) (g.S.Space.key c.args.space) (agree_sym _ _ c.in_ok-descend.ensures.key) c.args.from.now c.descend.new.place.items c.in_ok-descend.ensures.same in
    sought (g.S.Space.key c.descend.new.space) (g.met.S.Space.is_key c.descend.new.space) c.args.from.now c.in_ok-from.from c.args.to c.descend.new.place.items (g.S.Space.path c.settle-stage.new.space) c.settle-stage.new.place.items c.settle-stage.new.widths.items c.settle-stage.result
    c.in_ok-from.ensures c.requires.interval down c.settle-stage.ensures.same c.settle-stage.ensures.settled c.settle-stage.ensures.place

pub invariant_of-result : goal.invariant_of-result
invariant_of-result g c =
    holds_agrees (g.S.Space.key c.settle-stage.new.space) (g.S.Space.key c.descend.new.space) (agree_sym _ _ c.settle-stage.ensures.key) (g.S.Space.path c.settle-stage.new.space) c.settle-stage.new.place.items c.settle-stage.new.widths.items c.in_ok-from.from c.args.to 0 c.settle-stage.result (holds g (goal.at.invariant_of-result g c).After-settle-stage)

pub returns-clause-ahead : goal.returns-clause-ahead
returns-clause-ahead g c =
    is_ahead_agrees (g.S.Space.key c.args.space) (g.S.Space.key c.descend.new.space) c.in_ok-descend.ensures.key c.in_ok-from.from c.args.to 0 _
    (is_ahead (g.S.Space.key c.descend.new.space) (g.S.Space.path c.settle-stage.new.space) c.settle-stage.new.place.items c.settle-stage.new.widths.items c.in_ok-from.from c.args.to 0 c.settle-stage.result c.settle-stage.ensures.settled (holds g (goal.at.returns-clause-ahead g c).After-settle-stage))
