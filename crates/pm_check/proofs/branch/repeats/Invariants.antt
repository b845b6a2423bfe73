use Rattle.std.proofs.Common.{◌≢◌, take}
use Rattle.std.specs.List.{All}
use Rattle.pm_logic.specs.View.{literal_of}
use Rattle.pm_check.proofs.branch.repeats.Given as goal

abbrev pub invariant-ancestors : goal.invariant-ancestors
invariant-ancestors l = All (λ ancestor. literal_of l.terms ancestor.now ≢ literal_of l.terms l.literal) (take l.ancestor-index l.branch)
