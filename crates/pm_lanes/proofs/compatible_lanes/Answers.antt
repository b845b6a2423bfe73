use Rattle.pm_lanes.proofs.LaneLemmas.{zero_where_both, marks}
use Rattle.pm_lanes.proofs.compatible_lanes.Goals as goal

pub returns : goal.returns
returns c =
    let first_two = zero_where_both _ _ c.args.at _ _ c.clashes_in.ensures c.clashes_in-2.ensures in
    let first_three = zero_where_both _ _ c.args.at _ _ first_two c.clashes_in-3.ensures in
    let all = zero_where_both _ _ c.args.at _ _ first_three c.clashes_in-4.ensures in
    marks _ c.args.at 0 _ all.long all.each
