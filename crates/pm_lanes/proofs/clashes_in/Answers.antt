use Rattle.std.proofs.Common.{bit_xor}
use Rattle.pm_lanes.proofs.LaneLemmas.{loaded, splat, zipped, least_of, zero_where_agrees}
use Rattle.pm_lanes.proofs.clashes_in.Goals as goal

pub returns : goal.returns
returns c =
    let entries = loaded c.args.column.now c.args.at c.requires in
    let wanted = splat c.args.wanted in
    zero_where_agrees c.args.wanted c.args.at c.args.column.now _
    (least_of _ _ _ _ (least_of _ _ _ _ entries wanted) (zipped bit_xor _ _ _ _ entries wanted))
