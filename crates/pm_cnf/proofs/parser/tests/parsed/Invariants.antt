use Rattle.std.proofs.Common.{◌≤◌}
use Rattle.pm_cnf.proofs.parser.tests.parsed.Given as goal
use Rattle.pm_cnf.specs.Limits.{AreUsual}

abbrev pub invariant-loop-token : goal.invariant-loop-token
invariant-loop-token l = record { usual : AreUsual l.parser.limits; room : l.parser.around ≤ l.token-index }
