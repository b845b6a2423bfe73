use Rattle.std.proofs.Common.{◌≤◌, ◌+◌, length}
use Rattle.pm_logic.specs.Problem.{Problem}
use Rattle.pm_certread.specs.Reading.{opening, levels}
use Rattle.pm_certread.specs.Inside.Progress.{Continues}
use Rattle.pm_certread.proofs.levels.read_levels.Given as goal

abbrev pub invariant-levels : goal.invariant-levels
invariant-levels l =
    (l.level + 1 ≤ l.lines.taken)
    × ((over : Problem) → Continues over opening l.fn.lines (levels l.level) l.lines)

abbrev pub decreases-levels : goal.decreases-levels
decreases-levels l = length l.lines.rest.now
