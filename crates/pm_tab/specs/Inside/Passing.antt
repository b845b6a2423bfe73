-- Alternatives that are passed over, as the code finds them.
use Rattle.std.specs.Prelude.{◌≡◌, ℕ, ◌^◌, ◌<◌, ◌≤◌, ◌⊎◌, not, Bool, List, All, length, map, option_map, get_or, slice_get}
use Rattle.pm_logic.specs.Problem.{Clause}
use Rattle.pm_store.specs.Equations.{Equations}
use Rattle.pm_store.specs.Trees.{tree}
use Rattle.pm_calculus.specs.Skeleton.{Face}
use Rattle.pm_calculus.specs.Alternatives.{heads}
use Rattle.pm_contra.specs.Index.{top, top_at}
use Rattle.pm_lanes.specs.Lanes.{is_compatible}
use Rattle.pm_machine.specs.declared.node.LeafView.{LeafView}
use Rattle.pm_machine.specs.State.{CellNode, MachineState}
use Rattle.pm_tab.specs.Hopeful.{AreOpposite}
use Rattle.pm_tab.specs.Repeats.{literal_at}

-- the face of what may close the leaf
abbrev pub opposite_of : LeafView → Face
opposite_of leaf = record { positive = not leaf.positive; predicate = leaf.predicate }

-- what argument q of the literals with a face begins with
abbrev pub column_of : List Clause → Face → ℕ → List ℕ
column_of clauses face q = map (top_at clauses q) (heads face clauses)

-- the goal may match the literal in this place among those with a face
abbrev pub matches_at : List Clause → Face → List ℕ → ℕ → Bool
matches_at clauses face goal place =
    is_compatible goal (column_of clauses face 0) (column_of clauses face 1)
    (column_of clauses face 2) (column_of clauses face 3) place

-- the ancestor of this number, counted from 0, has the opposite sign and the same predicate as the
-- leaf; the ancestors are in these places
abbrev pub IsOppositeAt : List CellNode → List ℕ → CellNode → ℕ → Type 0
IsOppositeAt nodes places leaf k =
    AreOpposite (literal_at nodes (get_or places k 0)) leaf.literal

-- from a number on the first opposite ancestor; else their number, or that number, where it is more
pub record IsFirstOpposite (nodes : List CellNode) (places : List ℕ) (leaf : CellNode)
    (from first : ℕ) : Type 0 where
  pub beyond : from ≤ first
  pub within : (first ≤ length places) ⊎ (first ≡ from)
  pub passed :
      (k : ℕ) → from ≤ k → k < first → k < length places → ¬ IsOppositeAt nodes places leaf k
  pub here : first < length places → IsOppositeAt nodes places leaf first

-- what argument q of a list of cells begins with
abbrev pub top_in : Equations → List ℕ → ℕ → ℕ
top_in s args q = top (option_map (tree s) (slice_get args q))

-- the symbols that the cells' terms begin with are numbers of 32 bits, and so are the next ones
abbrev pub HasSmallTops : Equations → List ℕ → Type 0
HasSmallTops s args = (q : ℕ) → top_in s args q < 2 ^ 32

-- so are those of all nodes
abbrev pub HasSmallSymbols : MachineState → Type 0
HasSmallSymbols m = All (λ node. HasSmallTops m.equations node.literal.args) m.nodes
