use Rattle.std.proofs.Common.{map, sym, ◌∙◌, ap, arith}
use Rattle.std.proofs.lemmas.List.{take_all}
use Rattle.pm_logic.specs.Term.{tree_at}
use Rattle.pm_lift.proofs.ComplementLemmas.{same_rows, other_rows, other_lengths, other_at}
use Rattle.pm_lift.proofs.complements.are_equal.Goals as goal

pub returns-then-a-b : goal.returns-then-a-b
returns-then-a-b c =
    other_rows c.args.terms.now c.args.a.now c.args.b.now
    (other_lengths c.args.terms.now c.args.a.now c.args.b.now c.if-a-b.true)

pub returns-then-not-equal : goal.returns-then-not-equal
returns-then-not-equal c =
    other_rows c.args.terms.now c.args.a.now c.args.b.now
    (other_at c.args.terms.now c.args.a.now c.args.b.now c.rows.i c.index-a-i.result c.index-b-i.result c.rows-test.true (omega (arith, c.rows-test.true, c.if-a-b.false)) c.index-a-i.is c.index-b-i.is
    (λ same. grind (arith, c.if-not-equal.true, c.equal.ensures, same)))

pub returns : goal.returns
returns c =
    let a = c.args.a.now in
    let b = c.args.b.now in
    let f = map (tree_at c.args.terms.now) in
    same_rows c.args.terms.now a b
    (sym (ap f (take_all c.rows.i a c.rows-test.false)) ∙ c.rows.invariant ∙ ap f (take_all c.rows.i b (omega (arith, c.rows-test.false, c.if-a-b.false))))
