use Rattle.std.proofs.Common.{◌≡◌, ◌+◌, ◌≤◌, length}
use Rattle.pm_certread.specs.Lines.{cut_lines}
use Rattle.pm_certread.proofs.lines.Lines.count.Given as goal

abbrev pub invariant-lines : goal.invariant-lines
invariant-lines l =
    (l.count + length (cut_lines l.rest) ≡ length (cut_lines l.self.rest.now))
    × (l.count + length l.rest ≤ length l.self.rest.now)

abbrev pub decreases-lines : goal.decreases-lines
decreases-lines l = length l.rest
