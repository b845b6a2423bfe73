use Rattle.std.proofs.Common.{◌≡◌, map, take}
use Rattle.pm_compile.specs.Scheme.{is_ground}
use Rattle.pm_tab.proofs.numbers.ground_rows.Given as goal

-- of the rows so far is told which are without variables
abbrev pub invariant-rows : goal.invariant-rows
invariant-rows l = l.ground.items ≡ map is_ground (take l.row l.terms)
