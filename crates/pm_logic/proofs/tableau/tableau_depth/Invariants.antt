use Rattle.std.proofs.Common.{◌≡◌, map, take}
use Rattle.pm_logic.specs.View.{entry_of}
use Rattle.pm_logic.proofs.Tableaux.{deepest}
use Rattle.pm_logic.proofs.tableau.tableau_depth.Given as goal

-- the largest depth of the nodes so far
abbrev pub invariant-loop-node : goal.invariant-loop-node
invariant-loop-node l = l.deepest ≡ deepest (map (entry_of l.tableau.terms) (take l.node-index l.node-items))
