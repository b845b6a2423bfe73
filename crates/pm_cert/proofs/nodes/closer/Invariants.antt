use Rattle.std.proofs.Common.{ℕ, ◌<◌}
use Rattle.pm_logic.specs.View.{literal_of}
use Rattle.pm_cert.specs.Ancestors.{IsComplementaryAt}
use Rattle.pm_cert.specs.Inside.Nodes.{literals_on}
use Rattle.pm_cert.proofs.nodes.closer.Given as goal

-- no literal of the branch so far is complementary
abbrev pub invariant-loop-i : goal.invariant-loop-i
invariant-loop-i l = (earlier : ℕ) → earlier < l.i → ¬ IsComplementaryAt (literals_on l.terms l.branch) (literal_of l.terms l.literal) earlier
