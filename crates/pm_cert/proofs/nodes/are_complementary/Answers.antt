use Rattle.std.proofs.Common.{◌∙◌, sym, true≢false, eqb-true}
use Rattle.pm_cert.proofs.NodeLemmas.{complementary_told, opposite_sign}
use Rattle.pm_cert.proofs.nodes.are_complementary.Goals as goal
use Rattle.pm_cert.proofs.nodes.are_complementary.Goals.{then-literal-other, else-literal-other}

pub returns-then-literal-other-2 : goal.returns-then-literal-other-2
returns-then-literal-other-2 c =
    let rows = c.deref.ensures.value in
    let others = c.deref-then-literal-other-2.ensures.value in
    elim c.if-literal-other.branch [
      | then-literal-other w ↦ complementary_told c.args.terms.now c.args.literal.now c.args.other.now c.are_same.result c.len-count.ensures.distinct c.requires.rows c.requires.others
          (opposite_sign c.args.literal.now.positive c.args.other.now.positive w.if-literal-other.true)
          (eqb-true c.args.literal.now.predicate c.args.other.now.predicate (sym w.value-is ∙ c.if-literal-other-2.true))
          (λ h. sym rows ∙ c.are_same.ensures.0 h ∙ others, λ h. c.are_same.ensures.1 (rows ∙ h ∙ sym others))
      | else-literal-other w ↦ absurd (true≢false (sym c.if-literal-other-2.true ∙ w.value-is ∙ w.if-literal-other.false))
    ]
