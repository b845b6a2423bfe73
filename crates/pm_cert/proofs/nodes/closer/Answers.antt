use Rattle.std.proofs.Common.{sym, ◌∙◌, true≢false, arith, length, ◌≤◌}
use Rattle.std.proofs.lemmas.List.{length-map}
use Rattle.pm_logic.specs.View.{literal_of}
use Rattle.pm_cert.specs.Inside.Nodes.{literals_on}
use Rattle.pm_cert.proofs.NodeLemmas.{closer_next, closed_somewhere}
use Rattle.pm_cert.proofs.nodes.closer.Goals as goal

pub loop-i-preserved : goal.loop-i-preserved
loop-i-preserved c =
    closer_next c.args.terms.now c.args.branch.now (literal_of c.args.terms.now c.args.literal.now) c.loop-i.i c.index-branch-i.result c.loop-i-test.true c.index-branch-i.is
    (λ h. true≢false (sym (c.are_complementary.ensures.1 h) ∙ c.if-are_complementary.false)) c.loop-i.invariant

pub unreachable-requires : goal.unreachable-requires
unreachable-requires c =
    let above = literals_on c.args.terms.now c.args.branch.now in
    let le : length above ≤ c.loop-i.i = omega (arith, c.loop-i-test.false, length-map c.args.branch.now (λ l. literal_of c.args.terms.now l.now)) in
    closed_somewhere above (literal_of c.args.terms.now c.args.literal.now) c.loop-i.i le c.requires.closed c.loop-i.invariant
