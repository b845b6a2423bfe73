-- What the nodes in pre-order show of a node of a tableau.
use Rattle.std.specs.Prelude.{◌≡◌, ℕ, ◌+◌, ◌-◌, ◌⊎◌, List, [], ◌∷◌, ◌++◌, Some, drop, length, map, slice_get, take}
use Rattle.std.specs.Borrow.{Bor}
use Rattle.pm_logic.specs.declared.problem.Literal.{Literal as LiteralRows}
use Rattle.pm_logic.specs.declared.tableau.Node.{Node as NodeRows}
use Rattle.pm_logic.specs.declared.tableau.NodeKind.TheVariants.{Leaf, Inner}
use Rattle.pm_logic.specs.Term.{Term}
use Rattle.pm_logic.specs.Problem.{Literal}
use Rattle.pm_logic.specs.Tableau.{Node, leaf, inner, Nodes, no_nodes, more_nodes, Entry}
use Rattle.pm_logic.specs.View.{literal_of, entry_of}
use Rattle.pm_calculus.specs.Substitution.{AreComplementary}
use Rattle.pm_check.specs.PlacedNodes.{PlacedNode}
use Rattle.pm_check.specs.Inside.Siblings.{siblings}

-- a node by itself, the literals above it, and its children by themselves
pub record Sight : Type 0 where
  pub above : List Literal
  pub entry : Entry
  pub children : List Entry

-- a node at this depth by itself
abbrev pub top_of : ℕ → Node → Entry
top_of at_depth (leaf literal) = record { depth = at_depth; literal = literal; kind = Leaf }
top_of at_depth (inner literal clause children) =
    record { depth = at_depth; literal = literal; kind = Inner clause }

abbrev pub tops_among : ℕ → Nodes → List Entry
tops_among at_depth no_nodes = []
tops_among at_depth (more_nodes node nodes) = top_of at_depth node ∷ tops_among at_depth nodes

abbrev pub children_of : Node → Nodes
children_of (leaf literal) = no_nodes
children_of (inner literal clause children) = children

abbrev pub sight_of : PlacedNode → Sight
sight_of placed = record {
  above = placed.above;
  entry = top_of (length placed.above + 1) placed.node;
  children = tops_among (length placed.above + 2) (children_of placed.node);
}

-- the sights of nodes in pre-order, the first of them below the last of these literals or below one
-- above that
abbrev pub sights : List Literal → List Entry → List Sight
sights branch [] = []
sights branch (e ∷ es) =
    record {
      above = take (e.depth - 1) branch;
      entry = e;
      children = siblings (e.depth + 1) es;
    }
    ∷ sights (take (e.depth - 1) branch ++ e.literal ∷ []) es

-- the literals of a branch
abbrev pub literals_of : List Term → List (Bor LiteralRows) → List Literal
literals_of terms branch = map (λ literal. literal_of terms literal.now) branch

-- the placed node is the one at this place of the nodes in pre-order, below this branch
pub record IsSeenAt (terms : List Term) (nodes : List NodeRows) (branch : List (Bor LiteralRows))
    (place : ℕ) (placed : PlacedNode) : Type 0 where
  pub above : placed.above ≡ literals_of terms branch
  pub entry :
      slice_get (map (entry_of terms) nodes) place
      ≡ Some (top_of (length placed.above + 1) placed.node)
  pub children :
      tops_among (length placed.above + 2) (children_of placed.node)
      ≡ siblings (length placed.above + 2) (drop (place + 1) (map (entry_of terms) nodes))

-- one of the nodes is a leaf that is complementary to the literal
abbrev pub HasClosingLeaf : Literal → List Entry → Type 0
HasClosingLeaf literal [] = ⊥
HasClosingLeaf literal (e ∷ es) =
    ((e.kind ≡ Leaf) × AreComplementary e.literal literal) ⊎ HasClosingLeaf literal es
