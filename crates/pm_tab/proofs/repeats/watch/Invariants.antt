use Rattle.std.proofs.Common.{map, take}
use Rattle.pm_machine.specs.Node.{node_of}
use Rattle.pm_tab.specs.Repeats.{family_pairs, literals_in}
use Rattle.pm_tab.specs.Inside.Adding.{literal_on, AddsPairs}
use Rattle.pm_tab.specs.Inside.Steps.{GrewTo}
use Rattle.pm_tab.proofs.repeats.watch.Given as goal

abbrev pub invariant-children : goal.invariant-children
invariant-children l =
    AddsPairs l.store l.initial.pool l.pool (family_pairs (literals_in (map node_of l.nodes) l.branch) (map literal_on (take l.i l.children)))
    × GrewTo l.initial.pool l.pool
