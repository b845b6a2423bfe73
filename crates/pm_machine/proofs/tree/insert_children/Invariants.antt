use Rattle.std.specs.Prelude.{reverse}
use Rattle.std.specs.Vec.{vec_capacity}
use Rattle.pm_machine.specs.Inside.Frames.{AddsChildren}
use Rattle.pm_machine.proofs.tree.insert_children.Given as goal

abbrev pub invariant-children : goal.invariant-children
invariant-children l =
    AddsChildren l.depth l.initial.nodes.items (reverse l.initial.children.items) l.nodes.items
    l.children.items (vec_capacity l.nodes)

abbrev pub decreases-children : goal.decreases-children
decreases-children l = goal.left-children l
