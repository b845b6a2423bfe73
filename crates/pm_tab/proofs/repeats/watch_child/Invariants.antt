use Rattle.std.proofs.Common.{map, take}
use Rattle.pm_machine.specs.Node.{node_of}
use Rattle.pm_tab.specs.Repeats.{pairs_with, literals_in}
use Rattle.pm_tab.specs.Inside.Adding.{literal_on, AddsPairs}
use Rattle.pm_tab.specs.Inside.Steps.{GrewTo}
use Rattle.pm_tab.proofs.repeats.watch_child.Given as goal

abbrev pub invariant-branch : goal.invariant-branch
invariant-branch l =
    AddsPairs l.store l.initial.pool l.pool (pairs_with (literals_in (map node_of l.nodes) (take l.i l.branch)) (literal_on l.child))
    × GrewTo l.initial.pool l.pool
