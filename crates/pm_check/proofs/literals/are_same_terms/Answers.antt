use Rattle.std.proofs.Common.{◌≡◌, ◌<◌, true, length, refl, arith}
use Rattle.std.proofs.lemmas.Option.{slice_get_read}
use Rattle.pm_logic.specs.Term.{tree_at}
use Rattle.pm_check.proofs.MatchingLemmas.{same_at}
use Rattle.pm_check.proofs.literals.are_same_terms.Goals as goal

pub returns-then-not-equal : goal.returns-then-not-equal
returns-then-not-equal c =
    let a = c.args.a.now in
    let b = c.args.b.now in
    let within : c.rows.i < length b = omega (arith, c.rows-test.true, c.if-a-b.false) in (
      λ h. absurd cc,
      λ same.
          let equal : c.equal.result ≡ true = c.equal.ensures.1 (same_at (tree_at c.args.terms.now) (tree_at c.args.terms.now) a b c.rows.i c.index-a-i.result c.index-b-i.result same
          (slice_get_read a (length a) c.rows.i c.index-a-i.result refl c.rows-test.true c.index-a-i.is)
          (slice_get_read b (length b) c.rows.i c.index-b-i.result refl within c.index-b-i.is)) in
          cc,
    )
