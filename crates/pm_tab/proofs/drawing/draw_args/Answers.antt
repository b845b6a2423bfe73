use Rattle.std.proofs.Common.{◌+◌, take, refl, sym, subst}
use Rattle.pm_tab.proofs.Drawn.{AreArgsDrawn, one_more_arg}
use Rattle.pm_tab.proofs.drawing.draw_args.Goals as goal

pub cells-preserved : goal.cells-preserved
cells-preserved c =
    subst (AreArgsDrawn c.args.store.now c.args.resolver.now c.resolve.new.self c.resolve.new.into (take (c.cells.cell-index + 1) c.args.cells.now)) (sym c.in_ok-push.ensures.items)
    (one_more_arg c.args.store.now c.args.resolver.now c.cells.resolver c.resolve.new.self c.cells.terms c.resolve.new.into (take c.cells.cell-index c.args.cells.now) c.cells.rows.items
    c.args.cells.now c.cells.cell-index c.cell-item.result c.in_ok-resolve.field-0 c.cells-test.true c.cell-item.is refl c.cells.invariant
    c.in_ok-resolve.ensures.order c.in_ok-resolve.ensures.resolved c.in_ok-resolve.ensures.kept c.in_ok-resolve.ensures.noted)
