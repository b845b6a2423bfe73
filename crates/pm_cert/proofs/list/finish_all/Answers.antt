use Rattle.std.proofs.Common.{List, ◌++◌, map, subst, take}
use Rattle.pm_logic.specs.Term.{Term, as_terms, tree_at}
use Rattle.pm_cert.specs.Terms.{subterms_among}
use Rattle.pm_cert.specs.Inside.Listing.{AreFinished}
use Rattle.pm_cert.proofs.ListingLemmas.{terms-next}
use Rattle.pm_cert.proofs.list.finish_all.Goals as goal

pub loop-row-preserved : goal.loop-row-preserved
loop-row-preserved c finished are =
    let terms = c.args.terms.now in
    let done : List Term = finished ++ subterms_among (as_terms (map (tree_at terms) (take c.loop-row.row-index c.args.rows.now))) in
    subst (λ (ts : List Term). AreFinished terms ts c.finish.new.list.keys)
    (terms-next terms finished c.args.rows.now c.loop-row.row-index c.row-item.result c.loop-row-test.true c.row-item.is)
    (c.in_ok-finish.ensures done (c.loop-row.invariant finished are))
