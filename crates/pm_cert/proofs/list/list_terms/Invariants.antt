use Rattle.std.proofs.Common.{map, take}
use Rattle.std.specs.List.{flat_map}
use Rattle.pm_logic.specs.View.{entry_of}
use Rattle.pm_cert.specs.Terms.{terms_in}
use Rattle.pm_cert.specs.Inside.Listing.{AreFinished}
use Rattle.pm_cert.proofs.list.list_terms.Given as goal

abbrev pub invariant-loop-node : goal.invariant-loop-node
invariant-loop-node l =
    AreFinished l.tableau.terms (flat_map (λ entry. terms_in entry.literal) (map (entry_of l.tableau.terms) (take l.node-index l.node-items))) l.list.keys
