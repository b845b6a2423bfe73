use Rattle.std.proofs.Common.{length, ap, arith}
use Rattle.pm_lift.proofs.branch.add_leaf.Goals as goal

pub overflow_cast-reduction : goal.overflow_cast-reduction
overflow_cast-reduction c =
    omega (arith, c.reduction.ensures.within, c.requires.shallow, ap length c.as_slice-2.ensures.value)
