use Rattle.std.proofs.Common.{◌≡◌, take}
use Rattle.pm_certread.specs.Inside.Terms.{rows_of}
use Rattle.pm_certread.proofs.terms.rows_at.Given as goal

abbrev pub invariant-loop-number : goal.invariant-loop-number
invariant-loop-number l = l.found.items ≡ rows_of l.rows (take l.number-index l.numbers)
