use Rattle.std.proofs.Common.{rules, arith, eq-eqb}
use Rattle.pm_lanes.proofs.LaneLemmas.{found_at, found_nowhere}
use Rattle.pm_lanes.proofs.find_id.Goals as goal

pub returns-then-found-ne0 : goal.returns-then-found-ne0
returns-then-found-ne0 c = search (rules, found_at)

pub returns-then-ids-place : goal.returns-then-ids-place
returns-then-ids-place c =
    found_at c.args.ids.now c.args.id c.loop-place.place (omega arith) c.loop-place.invariant (eq-eqb _ _ c.if-ids-place.true)

pub returns : goal.returns
returns c = found_nowhere c.args.ids.now c.args.id c.loop-place.place (omega arith) c.loop-place.invariant
