-- The nodes of a tableau with the literals above them.
use Rattle.std.specs.Prelude.{List, [], ◌∷◌, ◌++◌}
use Rattle.pm_logic.specs.Problem.{Literal}
use Rattle.pm_logic.specs.Tableau.{Node, leaf, inner, Nodes, no_nodes, more_nodes, Tableau}

-- a node, and the literals of its ancestors, the one at depth 1 first
pub record PlacedNode : Type 0 where
  pub above : List Literal
  pub node : Node

-- the node and those below it, in pre-order
abbrev mutual
  pub placed_below : List Literal → Node → List PlacedNode
  placed_below above (leaf literal) = record { above = above; node = leaf literal } ∷ []
  placed_below above (inner literal clause children) =
      record { above = above; node = inner literal clause children }
      ∷ placed_among (above ++ literal ∷ []) children

  pub placed_among : List Literal → Nodes → List PlacedNode
  placed_among above no_nodes = []
  placed_among above (more_nodes node nodes) =
      placed_below above node ++ placed_among above nodes

abbrev pub placed_nodes : Tableau → List PlacedNode
placed_nodes tableau = placed_among [] tableau.children
