use Rattle.std.proofs.Common.{◌≡◌, ◌++◌, drop}
use Rattle.pm_certread.specs.Lines.{level_lines, level_lines_from, text_of}
use Rattle.pm_cert.proofs.head.push_exhausted.Given as goal

abbrev pub invariant-loop-level : goal.invariant-loop-level
invariant-loop-level l = l.text.items ++ text_of (level_lines_from l.level (drop l.level l.works)) ≡ l.fn.text.items ++ text_of (level_lines l.works)
