use Rattle.std.proofs.Common.{◌<◌, length, arith}
use Rattle.pm_compile.proofs.ListingLemmas.{slice_there, texts-join, listing-more}
use Rattle.pm_compile.proofs.writing.listing.Goals as goal

pub clauses-preserved : goal.clauses-preserved
clauses-preserved c =
    let problem = c.args.problem.now in
    let within : c.clauses.c < length problem.clauses = omega (arith, c.clauses-test.true, c.clauses-c-end.ensures.count) in
    let there = slice_there problem.clauses c.clauses.c within in
    listing-more problem.symbols c.clauses.c problem.clauses there.0 _ _ there.1 c.clauses.invariant
    (texts-join _ _ _ _ _ _ _ (c.in_ok-write_body.ensures there.0 there.1) c.in_ok-write_start.ensures (c.in_ok-write_extensions.ensures there.0 there.1))
