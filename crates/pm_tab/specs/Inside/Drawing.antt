-- How a machine's nodes are drawn.
use Rattle.std.specs.Prelude.{◌≡◌, ℕ, ◌≤◌, List, [], ◌∷◌, Some, map}
use Rattle.std.specs.List.{AllZip}
use Rattle.pm_logic.specs.declared.tableau.Node.{Node}
use Rattle.pm_logic.specs.Term.{Term}
use Rattle.pm_logic.specs.Tableau.{Entry, deepest_after}
use Rattle.pm_store.specs.Equations.{Equations}
use Rattle.pm_store.specs.Resolved.{Resolved, IsResolved, row_of}
use Rattle.pm_machine.specs.State.{CellNode}
use Rattle.pm_machine.specs.Labels.{kind_of}
use Rattle.pm_tab.specs.Numbered.{numbering}

-- each entry lies no deeper than the one before it lets it
abbrev pub AreNested : ℕ → List Entry → Type 0
AreNested bound [] = Unit {0}
AreNested bound (e ∷ es) =
    (1 ≤ e.depth) × (e.depth ≤ bound) × AreNested (deepest_after e.kind e.depth) es

-- what has a row has it still
abbrev pub Keeps : Resolved → Resolved → Type 0
Keeps old new = (cell row : ℕ) → row_of old cell ≡ Some row → row_of new cell ≡ Some row

-- the node is the machine's, its arguments in the rows that the resolver gave
pub record IsDrawn (r : Resolved) (cells : CellNode) (node : Node) : Type 0 where
  pub depth : node.depth ≡ cells.depth
  pub positive : node.literal.positive ≡ cells.literal.positive
  pub predicate : node.literal.predicate ≡ cells.literal.predicate
  pub args : map (row_of r) cells.literal.args ≡ map Some node.literal.args.items
  pub kind : node.kind ≡ kind_of cells.clause

-- the nodes are drawn by a resolver that has numbered the free variables by first occurrence in
-- them
pub record AreDrawnBy (s : Equations) (r : Resolved) (table : List Term) (cells : List CellNode)
    (nodes : List Node) : Type 0 where
  pub each : AllZip (IsDrawn r) cells nodes
  pub order : r.free ≡ numbering s cells
  pub resolved : IsResolved s r table

abbrev pub AreDrawn : Equations → List Term → List CellNode → List Node → Type 0
AreDrawn s table cells nodes = (r : Resolved) × AreDrawnBy s r table cells nodes
