-- The most general labelling of what a machine's steps built.
use Rattle.std.specs.Prelude.{ℕ}
use Rattle.pm_logic.specs.Tableau.{Tableau}
use Rattle.pm_store.specs.Trees.{tree}
use Rattle.pm_machine.specs.State.{MachineState}
use Rattle.pm_machine.specs.Labels.{tableau_under}

-- the tableau of a root's clause and the machine's nodes, in which each free variable of the store
-- stands for itself
abbrev pub general_tableau : ℕ → MachineState → Tableau
general_tableau root m = tableau_under (tree m.equations) root m.nodes
