use Rattle.std.proofs.Common.{◌≡◌, ◌++◌}
use Rattle.pm_compile.specs.Inside.Building.{builds}
use Rattle.pm_compile.proofs.building.push_builds.Given as goal

-- with the rest of the rows, all have become pending
abbrev pub invariant-reversed : goal.invariant-reversed
invariant-reversed l = l.pending.items ++ builds l.row-iterator.iter.rest.now ≡ l.fn.pending.items ++ builds l.rows
