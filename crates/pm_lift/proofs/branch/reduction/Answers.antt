use Rattle.std.proofs.Common.{true, false, sym, ◌∙◌, arith}
use Rattle.pm_logic.specs.View.{literal_of}
use Rattle.pm_lift.proofs.CodeLemmas.{reduction_step}
use Rattle.pm_lift.proofs.branch.reduction.Goals as goal

pub returns-then-are_complementary : goal.returns-then-are_complementary
returns-then-are_complementary c =
    let step = reduction_step c.args.terms.now c.args.branch.now c.ancestors.ancestor-index c.ancestor-item.result (literal_of c.args.terms.now c.args.literal.now) true c.ancestors-test.true c.ancestor-item.is (sym c.are_complementary.ensures ∙ c.if-are_complementary.true) in
    record {
      place = omega (arith, c.ancestors.invariant.1, step);
      within = omega (arith, c.ancestors.invariant.0, c.ancestors-test.true);
    }

pub ancestors-preserved : goal.ancestors-preserved
ancestors-preserved c =
    let step = reduction_step c.args.terms.now c.args.branch.now c.ancestors.ancestor-index c.ancestor-item.result (literal_of c.args.terms.now c.args.literal.now) false c.ancestors-test.true c.ancestor-item.is (sym c.are_complementary.ensures ∙ c.if-are_complementary.false) in
    (omega (arith, c.ancestors.invariant.0), omega (arith, c.ancestors.invariant.1, step))
