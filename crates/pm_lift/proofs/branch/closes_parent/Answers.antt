use Rattle.std.proofs.Common.{sym, ◌∙◌, ap}
use Rattle.std.specs.Option.{option_copied}
use Rattle.pm_logic.specs.View.{literal_of}
use Rattle.pm_lift.proofs.CodeLemmas.{closing_waits, closing_not}
use Rattle.pm_lift.proofs.branch.closes_parent.Goals as goal

pub returns-then-parent : goal.returns-then-parent
returns-then-parent c =
    c.are_complementary.ensures
    ∙ closing_waits c.args.terms.now c.args.branch.now c.in-Some.parent.now (literal_of c.args.terms.now c.args.literal.now)
    (sym c.last.ensures.value ∙ ap option_copied c.in-Some.is) c.if-parent.true

pub returns-else-parent : goal.returns-else-parent
returns-else-parent c =
    closing_not c.args.terms.now c.args.branch.now c.in-Some.parent.now (literal_of c.args.terms.now c.args.literal.now)
    (sym c.last.ensures.value ∙ ap option_copied c.in-Some.is) c.if-parent.false
