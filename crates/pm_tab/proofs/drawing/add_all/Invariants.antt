use Rattle.std.proofs.Common.{◌≡◌, ◌++◌, length, map, reverse}
use Rattle.std.specs.Prelude.{All}
use Rattle.pm_logic.specs.Tableau.{preorder}
use Rattle.pm_logic.specs.View.{HasRows, entry_of}
use Rattle.pm_tab.proofs.drawing.add_all.Given as goal

abbrev pub invariant-nodes : goal.invariant-nodes
invariant-nodes l =
    (preorder l.tableau.tableau ++ map (entry_of l.initial.tableau.terms) (reverse l.nodes.items) ≡ map (entry_of l.initial.tableau.terms) (reverse l.initial.nodes.items))
    × All (λ node. HasRows (length l.initial.tableau.terms) node.literal) l.nodes.items
    × (l.tableau.terms ≡ l.initial.tableau.terms) × (l.tableau.tableau.root ≡ l.initial.tableau.tableau.root)

abbrev pub decreases-nodes : goal.decreases-nodes
decreases-nodes l = length l.nodes.items
