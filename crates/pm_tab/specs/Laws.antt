-- The laws of general tableaux.
use Rattle.std.specs.Prelude.{◌≡◌, ◌↔◌, ℕ}
use Rattle.pm_logic.specs.declared.problem.Class.{Class}
use Rattle.pm_logic.specs.Problem.{Problem}
use Rattle.pm_logic.specs.Tableau.{Tableau}
use Rattle.pm_calculus.specs.Substitution.{IsInstanceOf}
use Rattle.pm_calculus.specs.Connection.{IsRegularFor}
use Rattle.pm_calculus.specs.Skeleton.{Skeletons, rooted, built}
use Rattle.pm_calculus.specs.Choices.{IsLabelling}
use Rattle.pm_machine.specs.State.{MachineState}
use Rattle.pm_machine.specs.Labels.{IsBuilt}
use Rattle.pm_tab.specs.General.{general_tableau}

-- the steps of a machine have built this, below this clause
pub record HasBuilt (problem : Problem) (m : MachineState) (root : ℕ)
    (below : Skeletons) : Type 0 where
  pub always : IsBuilt problem m
  pub built : built problem.clauses m.steps ≡ rooted root below

-- the general tableau is a labelling of what was built, and each labelling is an instance of it
pub record IsMostGeneral (problem : Problem) (root : ℕ) (below : Skeletons)
    (tableau : Tableau) : Type 0 where
  pub labels : IsLabelling problem.clauses (rooted root below) tableau
  pub most :
      (other : Tableau) → IsLabelling problem.clauses (rooted root below) other
      → IsInstanceOf other tableau

abbrev pub GeneralTableauxLabel : Type 0
GeneralTableauxLabel =
    (problem : Problem) (m : MachineState) (root : ℕ) (below : Skeletons)
    → HasBuilt problem m root below
    → IsMostGeneral problem root below (general_tableau root m)

-- some labelling is as regular as the class asks exactly where the general one is
abbrev pub RegularityIsGeneral : Type 0
RegularityIsGeneral =
    (problem : Problem) (m : MachineState) (root : ℕ) (below : Skeletons) (class : Class)
    → HasBuilt problem m root below
    → ((t : Tableau) × IsLabelling problem.clauses (rooted root below) t × IsRegularFor class t)
    ↔ IsRegularFor class (general_tableau root m)
