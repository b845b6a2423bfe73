use Rattle.std.proofs.Common.{◌-◌, length}
use Rattle.pm_logic.specs.View.{literal_of}
use Rattle.pm_check.proofs.BranchLemmas.{IsChildTurn}
use Rattle.pm_check.proofs.branch.is_connected.Given as goal

abbrev pub invariant-children : goal.invariant-children
invariant-children l = IsChildTurn l.nodes.terms.now l.nodes.list.now l.place l.depth (literal_of l.nodes.terms.now l.parent.literal) l.child

abbrev pub decreases-children : goal.decreases-children
decreases-children l = length l.nodes.list.now - l.child
