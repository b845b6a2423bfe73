use Rattle.std.proofs.Common.{rules, arith}
use Rattle.pm_check.proofs.ImageLemmas.{kept_none}
use Rattle.pm_check.proofs.images.Images.with_room.Goals as goal

pub invariant_of-result : goal.invariant_of-result
invariant_of-result c =
    kept_none _ _ c.args.count _ (c.in_ok-vec.ensures.items_if_clones_equal (λ y. search rules)) c.in_ok-with_capacity.ensures.items (omega (arith, c.in_ok-with_capacity.ensures.exact)) (omega (arith, c.in_ok-vec.ensures.len, c.in_ok-vec.field-0.ok.0))
