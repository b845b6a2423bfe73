use Rattle.std.proofs.Common.{ap, eqb}
use Rattle.pm_lanes.proofs.LaneLemmas.{loaded, marks}
use Rattle.pm_lanes.proofs.equal_lanes.Goals as goal

pub returns : goal.returns
returns c =
    let entries = loaded c.args.ids.now c.args.at c.requires in
    marks _ c.args.at c.args.id _ entries.long (λ k within. ap (λ x. eqb x c.args.id) (entries.each k within))
