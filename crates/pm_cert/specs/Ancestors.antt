-- The nodes of a tableau with their ancestors, and the ancestors that close leaves.
use Rattle.std.specs.Prelude.{◌≡◌, ℕ, ◌+◌, ◌<◌, List, [], ◌∷◌, ◌++◌, IsSomeAnd, slice_get}
use Rattle.pm_logic.specs.declared.tableau.NodeKind.{NodeKind}
use Rattle.pm_logic.specs.declared.tableau.NodeKind.TheVariants.{Leaf, Inner}
use Rattle.pm_logic.specs.Problem.{Literal}
use Rattle.pm_logic.specs.Tableau.{Node, leaf, inner, Nodes, no_nodes, more_nodes, Tableau}
use Rattle.pm_calculus.specs.Substitution.{AreComplementary}

-- a node beside the literals of its ancestors, the one at depth 1 first
pub record PlacedNode : Type 0 where
  pub above : List Literal
  pub literal : Literal
  pub kind : NodeKind

-- the nodes in pre-order, with these literals above the first
abbrev mutual
  pub placed_below : List Literal → Node → List PlacedNode
  placed_below above (leaf literal) =
      record { above = above; literal = literal; kind = Leaf } ∷ []
  placed_below above (inner literal clause children) =
      record { above = above; literal = literal; kind = Inner clause }
      ∷ placed_among (above ++ literal ∷ []) children

  pub placed_among : List Literal → Nodes → List PlacedNode
  placed_among above no_nodes = []
  placed_among above (more_nodes node nodes) =
      placed_below above node ++ placed_among above nodes

-- the nodes of a tableau in pre-order, with their ancestors
abbrev pub placed_nodes : Tableau → List PlacedNode
placed_nodes tableau = placed_among [] tableau.children

-- the literal at this place above a leaf, counted from 0, is complementary to the leaf's
abbrev pub IsComplementaryAt : List Literal → Literal → ℕ → Type 0
IsComplementaryAt above literal place =
    IsSomeAnd (slice_get above place) (AreComplementary literal)

-- the least depth of an ancestor that is complementary to the leaf, whose terms are the leaf's
pub record IsCloser (above : List Literal) (literal : Literal) (depth : ℕ) : Type 0 where
  pub place : ℕ
  pub is : depth ≡ place + 1
  pub complementary : IsComplementaryAt above literal place
  pub least : (earlier : ℕ) → earlier < place → ¬ IsComplementaryAt above literal earlier
