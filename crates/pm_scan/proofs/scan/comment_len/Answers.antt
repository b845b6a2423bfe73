use Rattle.std.proofs.Common.{arith, ◌∙◌, sym}
use Rattle.std.proofs.lemmas.Bool.Decides.{nat_tests}
use Rattle.pm_scan.specs.Lexemes.{is_star, is_slash, begins}
use Rattle.pm_scan.proofs.Scanning.{comment_goes_on, and_no-first, and_no-second}
use Rattle.pm_scan.proofs.scan.comment_len.Goals as goal
use Rattle.pm_scan.proofs.scan.comment_len.Goals.{else-byte-eq42-via-then-byte-eq42+else-begins_with, else-byte-eq42-via-else-byte-eq42}

pub search-preserved : goal.search-preserved
search-preserved c = record {
  closes = elim c.else-byte-eq42.branch [
    | else-byte-eq42-via-then-byte-eq42+else-begins_with w ↦
        comment_goes_on c.search.len c.in-Some.byte.now c.search.rest.now c.in-Some.after.now c.args.bytes.now c.search.invariant.closes c.in-Some.ensures.cases.0
        (and_no-second (is_star c.in-Some.byte.now) (begins is_slash c.in-Some.after.now) (sym w.begins_with.ensures ∙ w.if-begins_with.false))
    | else-byte-eq42-via-else-byte-eq42 w ↦
        comment_goes_on c.search.len c.in-Some.byte.now c.search.rest.now c.in-Some.after.now c.args.bytes.now c.search.invariant.closes c.in-Some.ensures.cases.0
        (and_no-first (is_star c.in-Some.byte.now) (begins is_slash c.in-Some.after.now) (grind (arith, nat_tests, w.if-byte-eq42.false)))
  ];
  within = omega (arith, c.search.invariant.within, c.in-Some.ensures.cases.1);
}
