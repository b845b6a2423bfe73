-- What is searched, and its levels.
use Rattle.std.specs.Prelude.{ℕ}
use Rattle.pm_logic.specs.declared.problem.Class.{Class}
use Rattle.pm_logic.specs.declared.problem.Start.{Start}
use Rattle.pm_logic.specs.declared.tableau.BoundKind.{BoundKind}
use Rattle.pm_logic.specs.Problem.{Problem}
use Rattle.pm_calculus.specs.Connection.{Level}

-- a problem with the class and the start rule of its tableaux, and what bounds those of a level
pub record Searched : Type 0 where
  pub problem : Problem
  pub class : Class
  pub start : Start
  pub kind : BoundKind

-- a level of what is searched
abbrev pub level_of : Searched → ℕ → Level
level_of searched bound =
    record {
      problem = searched.problem;
      class = searched.class;
      start = searched.start;
      kind = searched.kind;
      bound = bound;
    }
