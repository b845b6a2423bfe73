-- The tableau of a machine's nodes, its variables numbered by first occurrence.
use Rattle.std.specs.Prelude.{ℕ, List, [], map, fold}
use Rattle.std.specs.List.{flat_map}
use Rattle.pm_logic.specs.Term.{Term}
use Rattle.pm_logic.specs.Filling.{fill}
use Rattle.pm_logic.specs.Tableau.{Tableau}
use Rattle.pm_store.specs.Equations.{Equations}
use Rattle.pm_store.specs.Trees.{tree}
use Rattle.pm_store.specs.Resolved.{with_variables, numbered}
use Rattle.pm_machine.specs.State.{CellNode, MachineState}
use Rattle.pm_machine.specs.Labels.{tableau_under}

-- the arguments of nodes, in pre-order
abbrev pub args_over : (ℕ → Term) → List CellNode → List Term
args_over trees nodes = flat_map (λ node. map trees node.literal.args) nodes

-- the free variables in the arguments of nodes, by first occurrence
abbrev pub numbering : Equations → List CellNode → List ℕ
numbering s nodes = fold with_variables [] (args_over (tree s) nodes)

-- the tree of a cell, with the number of each variable in its place
abbrev pub numbered_tree : MachineState → ℕ → Term
numbered_tree m cell = fill (numbered (numbering m.equations m.nodes)) (tree m.equations cell)

abbrev pub numbered_tableau : ℕ → MachineState → Tableau
numbered_tableau root m = tableau_under (numbered_tree m) root m.nodes
