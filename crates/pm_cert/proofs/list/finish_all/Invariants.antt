use Rattle.std.proofs.Common.{List, ◌++◌, map, take}
use Rattle.pm_logic.specs.Term.{Term, as_terms, tree_at}
use Rattle.pm_cert.specs.Terms.{subterms_among}
use Rattle.pm_cert.specs.Inside.Listing.{AreFinished}
use Rattle.pm_cert.proofs.list.finish_all.Given as goal

abbrev pub invariant-loop-row : goal.invariant-loop-row
invariant-loop-row l = (finished : List Term) → AreFinished l.terms finished l.fn.list.keys
    → AreFinished l.terms (finished ++ subterms_among (as_terms (map (tree_at l.terms) (take l.row-index l.rows)))) l.list.keys
