use Rattle.std.proofs.Common.{◌≡◌, ◌++◌, List, length, map, drop}
use Rattle.std.specs.List.{All, AllZip}
use Rattle.pm_logic.specs.Term.{tree_at}
use Rattle.pm_logic.specs.View.{HasRows, entry_of}
use Rattle.pm_certread.specs.Lines.{NodeLine, node_line, text_of}
use Rattle.pm_cert.specs.Ancestors.{PlacedNode, placed_nodes}
use Rattle.pm_cert.specs.Text.{IsLineOf}
use Rattle.pm_cert.specs.Inside.Nodes.{literals_on, placed_from}
use Rattle.pm_cert.proofs.nodes.push_nodes.Given as goal

-- the nodes so far have lines, and the others are placed below the branch
abbrev pub invariant-loop-node : goal.invariant-loop-node
invariant-loop-node l =
    All (λ literal. HasRows (length l.tableau.terms) literal.now) l.branch.items
    × (placed : List PlacedNode) × (nodes : List NodeLine)
    × AllZip (IsLineOf l.symbols (map (tree_at l.tableau.terms) l.list.keys)) placed nodes
    × (placed ++ placed_from (literals_on l.tableau.terms l.branch.items) (map (entry_of l.tableau.terms) (drop l.node-index l.node-items)) ≡ placed_nodes l.tableau.tableau)
    × (l.text.items ≡ l.fn.text.items ++ text_of (map node_line nodes))
