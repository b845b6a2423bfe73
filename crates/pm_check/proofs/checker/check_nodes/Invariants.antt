use Rattle.std.proofs.Common.{◌≡◌}
use Rattle.std.specs.Vec.{vec_capacity}
use Rattle.pm_certread.specs.Certificate.{certificate_of}
use Rattle.pm_check.proofs.PlaceLemmas.{IsWalked}
use Rattle.pm_check.proofs.checker.check_nodes.Given as goal

abbrev pub invariant-nodes : goal.invariant-nodes
invariant-nodes l =
    (l.images ≡ l.fn.images)
    × (vec_capacity l.branch ≡ vec_capacity l.fn.branch)
    × IsWalked l.problem (certificate_of l.cert) l.cert.tableau.terms l.list l.branch.items l.place
