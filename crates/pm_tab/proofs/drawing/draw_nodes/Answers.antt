use Rattle.std.proofs.Common.{◌+◌, map, take, sym, subst}
use Rattle.pm_machine.specs.Node.{node_of}
use Rattle.pm_tab.specs.Inside.Drawing.{AreDrawnBy}
use Rattle.pm_tab.proofs.Drawn.{one_more_node}
use Rattle.pm_tab.proofs.drawing.draw_nodes.Goals as goal

pub nodes-preserved : goal.nodes-preserved
nodes-preserved c =
    subst (AreDrawnBy c.args.store.now c.draw_node.new.resolver c.draw_node.new.terms (map node_of (take (c.nodes.node-index + 1) c.args.nodes.now))) (sym c.in_ok-push.ensures.items)
    (one_more_node c.args.store.now c.nodes.resolver c.draw_node.new.resolver c.nodes.terms c.draw_node.new.terms c.args.nodes.now c.nodes.drawn.items c.nodes.node-index
    c.node-item.result c.in_ok-draw_node.field-0 c.nodes-test.true c.node-item.is c.nodes.invariant c.in_ok-draw_node.ensures.drawn c.in_ok-draw_node.ensures.order
    c.in_ok-draw_node.ensures.resolved c.in_ok-draw_node.ensures.kept)
