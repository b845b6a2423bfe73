use Rattle.std.proofs.Common.{◌≡◌}
use Rattle.pm_report.specs.Sample.{constant_terms}
use Rattle.pm_report.proofs.chain.sample_terms.Given as goal

abbrev pub invariant-loop-k : goal.invariant-loop-k
invariant-loop-k l = l.terms ≡ constant_terms l.k
