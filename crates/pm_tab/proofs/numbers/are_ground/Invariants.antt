use Rattle.std.proofs.Common.{◌≡◌, true, false, take, get_or}
use Rattle.std.specs.List.{list_all}
use Rattle.pm_tab.proofs.numbers.are_ground.Given as goal

-- the terms so far are without variables
abbrev pub invariant-rows : goal.invariant-rows
invariant-rows l = list_all (λ row. get_or l.ground row false) (take l.row-index l.rows) ≡ true
