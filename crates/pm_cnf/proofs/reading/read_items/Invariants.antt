use Rattle.std.proofs.Common.{length, ◌-◌}
use Rattle.pm_cnf.specs.Inside.Progress.{Progress}
use Rattle.pm_cnf.proofs.reading.read_items.Given as goal

abbrev pub invariant-lexemes : goal.invariant-lexemes
invariant-lexemes l = Progress l.limits l.bytes l.parser l.place

abbrev pub decreases-lexemes : goal.decreases-lexemes
decreases-lexemes l = length l.bytes - l.place
