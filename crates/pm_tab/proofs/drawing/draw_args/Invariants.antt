use Rattle.std.proofs.Common.{take}
use Rattle.pm_tab.proofs.Drawn.{AreArgsDrawn}
use Rattle.pm_tab.proofs.drawing.draw_args.Given as goal

abbrev pub invariant-cells : goal.invariant-cells
invariant-cells l = AreArgsDrawn l.store l.initial.resolver l.resolver l.terms (take l.cell-index l.cells) l.rows.items
