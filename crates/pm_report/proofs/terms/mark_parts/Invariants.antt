use Rattle.std.proofs.Common.{◌-◌, length}
use Rattle.pm_report.proofs.MarkLemmas.{Marks}
use Rattle.pm_report.proofs.terms.mark_parts.Given as goal

abbrev pub invariant-loop-step : goal.invariant-loop-step
invariant-loop-step l = Marks l.terms l.fn.marks.items l.marks.items (length l.terms - l.step)
