use Rattle.std.proofs.Common.{◌≡◌, map, take}
use Rattle.pm_logic.specs.View.{entry_of}
use Rattle.pm_logic.proofs.Tableaux.{inner_count}
use Rattle.pm_logic.proofs.tableau.tableau_instances.Given as goal

-- how many of the nodes so far carry a clause
abbrev pub invariant-loop-node : goal.invariant-loop-node
invariant-loop-node l = l.inner ≡ inner_count (map (entry_of l.tableau.terms) (take l.node-index l.node-items))
