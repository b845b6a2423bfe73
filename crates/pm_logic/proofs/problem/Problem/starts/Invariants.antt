use Rattle.std.proofs.Common.{◌≡◌, take}
use Rattle.pm_logic.specs.Lists.{places}
use Rattle.pm_logic.specs.Problem.{is_start}
use Rattle.pm_logic.proofs.problem.Problem.starts.Given as goal

-- the start clauses so far
abbrev pub invariant-loop-i : goal.invariant-loop-i
invariant-loop-i l = l.indices.items ≡ places (is_start l.start) 0 (take l.i l.self.clauses)
