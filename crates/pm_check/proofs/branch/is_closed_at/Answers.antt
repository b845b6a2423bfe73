use Rattle.std.proofs.Common.{◌<◌, ◌-◌, length, refl, arith}
use Rattle.std.proofs.lemmas.Option.{slice_get_read}
use Rattle.pm_logic.specs.View.{literal_of}
use Rattle.pm_check.proofs.BranchLemmas.{closed_at}
use Rattle.pm_check.proofs.branch.is_closed_at.Goals as goal

pub returns : goal.returns
returns c =
    let branch = c.args.branch.now in
    let within : c.args.ancestor - 1 < length branch = omega (arith, c.requires.above, c.requires.within) in
    closed_at c.args.terms.now branch c.args.ancestor c.index-branch-ancestor.result (literal_of c.args.terms.now c.args.literal.now) c.are_complementary.result c.requires.above
    (slice_get_read branch (length branch) (c.args.ancestor - 1) c.index-branch-ancestor.result refl within c.index-branch-ancestor.is)
    c.are_complementary.ensures
