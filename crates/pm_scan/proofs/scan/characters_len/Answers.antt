use Rattle.std.proofs.Common.{◌+◌, arith, eqb, ◌∙◌, sym}
use Rattle.std.proofs.lemmas.Bool.Decides.{nat_tests}
use Rattle.pm_scan.proofs.Scanning.{HasScanned, later_zero, lt_from_test, plain_goes_on, escape_goes_on, escape_there, closes, spoils, and_no-first, and_no-second}
use Rattle.pm_scan.proofs.scan.characters_len.Goals as goal
use Rattle.pm_scan.proofs.scan.characters_len.Goals.{else-byte-eq92-via-then-byte-eq92+else-is_escaped, else-byte-eq92-via-else-byte-eq92}

pub characters-init : goal.characters-init
characters-init c = record { ends = later_zero _; within = omega arith }

pub returns-then-byte-closing : goal.returns-then-byte-closing
returns-then-byte-closing c =
    let lt = lt_from_test _ _ c.in-Some.ensures.lookup.0 in
    let reads : HasScanned c.args.closing c.characters.len c.in-Some.field-0.now c.args.bytes.now = record { ends = c.characters.invariant.ends; there = lt; is = c.in-Some.ensures.lookup.1 } in
    record { len = closes _ _ _ _ reads c.if-byte-closing.true; within = lt }

pub characters-preserved-then-is_plain_byte : goal.characters-preserved-then-is_plain_byte
characters-preserved-then-is_plain_byte c =
    let lt = lt_from_test _ _ c.in-Some.ensures.lookup.0 in
    let reads : HasScanned c.args.closing c.characters.len c.in-Some.field-0.now c.args.bytes.now = record { ends = c.characters.invariant.ends; there = lt; is = c.in-Some.ensures.lookup.1 } in
    record { ends = plain_goes_on _ _ _ _ reads c.if-byte-closing.false c.if-is_plain_byte.ensures; within = omega (arith, lt) }

pub characters-preserved : goal.characters-preserved
characters-preserved c =
    let lt = lt_from_test _ _ c.in-Some.ensures.lookup.0 in
    let reads : HasScanned c.args.closing c.characters.len c.in-Some.field-0.now c.args.bytes.now = record { ends = c.characters.invariant.ends; there = lt; is = c.in-Some.ensures.lookup.1 } in
    let next = escape_there _ (c.characters.len + 1) c.args.bytes.now c.if-is_escaped.ensures in
    record {
      ends = escape_goes_on _ _ _ _ reads c.if-byte-closing.false c.if-is_plain_byte.ensures c.if-byte-eq92.true c.if-is_escaped.ensures;
      within = omega (arith, next);
    }

pub returns-else-byte-eq92 : goal.returns-else-byte-eq92
returns-else-byte-eq92 c =
    let lt = lt_from_test _ _ c.in-Some.ensures.lookup.0 in
    let reads : HasScanned c.args.closing c.characters.len c.in-Some.field-0.now c.args.bytes.now = record { ends = c.characters.invariant.ends; there = lt; is = c.in-Some.ensures.lookup.1 } in
    record {
      len = elim c.else-byte-eq92.branch [
        | else-byte-eq92-via-then-byte-eq92+else-is_escaped w ↦ spoils _ _ _ _ reads c.if-byte-closing.false c.if-is_plain_byte.ensures (and_no-second _ _ (sym w.is_escaped.ensures ∙ w.if-is_escaped.false))
        | else-byte-eq92-via-else-byte-eq92 w ↦ spoils _ _ _ _ reads c.if-byte-closing.false c.if-is_plain_byte.ensures (and_no-first (eqb c.in-Some.field-0.now 92) _ (grind (arith, nat_tests, w.if-byte-eq92.false)))
      ];
      within = tt;
    }
