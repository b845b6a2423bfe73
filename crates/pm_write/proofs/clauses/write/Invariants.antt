use Rattle.std.proofs.Common.{◌≡◌, take}
use Rattle.std.specs.List.{flat_map}
use Rattle.pm_write.specs.Text.{clause_text}
use Rattle.pm_write.proofs.clauses.write.Given as goal

-- the clauses so far are written
abbrev pub invariant-loop-i : goal.invariant-loop-i
invariant-loop-i l = l.text.items ≡ flat_map (clause_text l.problem.symbols) (take l.i l.problem.clauses)
