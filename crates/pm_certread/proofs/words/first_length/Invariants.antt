use Rattle.std.proofs.Common.{◌≡◌, ◌+◌, drop}
use Rattle.pm_certread.specs.Inside.Words.{first_length}
use Rattle.pm_certread.specs.declared.words.Place.TheVariants.{Outside}
use Rattle.pm_certread.proofs.words.first_length.Given as goal

abbrev pub invariant-loop-i : goal.invariant-loop-i
invariant-loop-i l = l.i + first_length l.place (drop l.i l.line) ≡ first_length Outside l.line
