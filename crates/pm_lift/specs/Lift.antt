-- The least list of choices of a tableau.
use Rattle.std.specs.Prelude.{◌≡◌, ℕ, List, Contains}
use Rattle.pm_logic.specs.declared.problem.Start.{Start}
use Rattle.pm_logic.specs.Problem.{Problem, start_clauses}
use Rattle.pm_logic.specs.Tableau.{Tableau}
use Rattle.pm_calculus.specs.Connection.{IsOver, IsClosed, IsConnected, IsRegularFor, IsWithinBound, Level}
use Rattle.pm_calculus.specs.Choices.{IsComplete}
use Rattle.pm_calculus.specs.Agreement.{IsLeastList}

-- a closed connected tableau over the problem's clauses, with a start clause of the rule at its
-- root
pub record IsProof (problem : Problem) (rule : Start) (tableau : Tableau) : Type 0 where
  pub start : Contains (start_clauses rule problem.clauses) tableau.root
  pub over : IsOver problem.clauses tableau
  pub closed : IsClosed tableau
  pub connected : IsConnected tableau

-- a level of this problem and start rule, of any class and kind of bound, whose bound isn't below
-- the tableau's size
pub record HasRoom (problem : Problem) (rule : Start) (tableau : Tableau) (level : Level)
    : Type 0 where
  pub problem_is : level.problem ≡ problem
  pub start_is : level.start ≡ rule
  pub within : IsWithinBound level.kind level.bound tableau

-- at each such level the list is the least that the tableau follows
abbrev pub IsLeastAtEach : Problem → Start → Tableau → List ℕ → Type 0
IsLeastAtEach problem rule tableau list =
    (level : Level) → HasRoom problem rule tableau level → IsLeastList level tableau list

-- at each such level, for whose class the tableau is regular enough, the list is complete
abbrev pub IsCompleteAtEach : Problem → Start → Tableau → List ℕ → Type 0
IsCompleteAtEach problem rule tableau list =
    (level : Level) → HasRoom problem rule tableau level → IsRegularFor level.class tableau
    → IsComplete level list
