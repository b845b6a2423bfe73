use Rattle.pm_compile.specs.Inside.Ground.{AreGroundBelow}
use Rattle.pm_compile.proofs.source.ground_rows.Given as goal

-- of the rows so far the set has the ground terms
abbrev pub invariant-rows : goal.invariant-rows
invariant-rows l = AreGroundBelow l.terms l.ground.keys l.row
