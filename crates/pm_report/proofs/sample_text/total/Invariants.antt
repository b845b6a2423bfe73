use Rattle.std.proofs.Common.{◌≡◌, ◌*◌, ◌≤◌, ◌^◌, sum, take}
use Rattle.pm_report.proofs.sample_text.total.Given as goal

abbrev pub invariant-loop-work : goal.invariant-loop-work
invariant-loop-work l = (l.total ≡ sum (take l.work-index l.works)) × (l.total ≤ l.work-index * 2 ^ 64)
