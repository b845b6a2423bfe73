use Rattle.std.proofs.Common.{◌≡◌, ◌∙◌, ◌+◌, ◌-◌, ◌<◌, ℕ, arith, length, subst, sym}
use Rattle.pm_report.specs.Inside.Marks.{has_mark}
use Rattle.pm_report.proofs.MarkLemmas.{Marks, mark_default, marks_more, marks_pass, marks_start}
use Rattle.pm_report.proofs.terms.mark_parts.Goals as goal
use Rattle.pm_report.proofs.terms.mark_parts.Goals.{then-index, else-index}

pub loop-step-init : goal.loop-step-init
loop-step-init c = marks_start c.args.terms.now c.args.marks.now.items (length c.args.terms.now - 0) (omega (arith, c.requires))

pub loop-step-preserved : goal.loop-step-preserved
loop-step-preserved c =
    let terms = c.args.terms.now in
    let row : ℕ = c.len-count.result - 1 - c.loop-step.step in
    let place : row ≡ length terms - (c.loop-step.step + 1) = omega (arith, c.len-count.ensures.count) in
    let next : length terms - c.loop-step.step ≡ row + 1 = omega (arith, c.len-count.ensures.count) in
    let within : row < length c.loop-step.marks.items = omega (arith, c.len-count.ensures.count, c.loop-step.invariant.count, c.requires) in
    let here : c.index.result.now ≡ has_mark c.loop-step.marks.items row = c.index.ensures ∙ mark_default c.loop-step.marks.items row c.index.result.now within in
    elim c.if-index.branch [
      | then-index w ↦ rw w.marks-is (subst (Marks terms c.args.marks.now.items w.mark_arguments_of.new.marks.items) place
          (marks_more terms c.args.marks.now.items c.loop-step.marks.items w.mark_arguments_of.new.marks.items row (length terms - c.loop-step.step) next
          c.loop-step.invariant (sym here ∙ w.if-index.true) w.mark_arguments_of.ensures.count w.mark_arguments_of.ensures.grows w.mark_arguments_of.ensures.new
          w.mark_arguments_of.ensures.marked))
      | else-index w ↦ rw w.marks-is (subst (Marks terms c.args.marks.now.items c.loop-step.marks.items) place
          (marks_pass terms c.args.marks.now.items c.loop-step.marks.items row (length terms - c.loop-step.step) next c.loop-step.invariant (sym here ∙ w.if-index.false)))
    ]

pub returns-clause-closed : goal.returns-clause-closed
returns-clause-closed c row e =
    c.loop-step.invariant.closed row (omega (arith, c.len-count.ensures.count, c.loop-step-test.false)) e
