use Rattle.std.proofs.Common.{map, take}
use Rattle.pm_machine.specs.Node.{node_of}
use Rattle.pm_tab.specs.Inside.Drawing.{AreDrawnBy}
use Rattle.pm_tab.proofs.drawing.draw_nodes.Given as goal

abbrev pub invariant-nodes : goal.invariant-nodes
invariant-nodes l = AreDrawnBy l.store l.resolver l.terms (map node_of (take l.node-index l.nodes)) l.drawn.items
