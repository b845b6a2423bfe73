use Rattle.std.proofs.Common.{◌-◌, length, map}
use Rattle.pm_machine.specs.Node.{node_of}
use Rattle.pm_machine.specs.Inside.Frames.{IsPassed}
use Rattle.pm_machine.proofs.tree.Tree.select.Given as goal

abbrev pub invariant-nodes : goal.invariant-nodes
invariant-nodes l = IsPassed l.from (map node_of l.self-inside.nodes.items) l.leaf

abbrev pub decreases-nodes : goal.decreases-nodes
decreases-nodes l = length l.self-inside.nodes.items - l.leaf
