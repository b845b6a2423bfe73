-- The answer of a problem: its levels, searched in order.
use Rattle.std.specs.Prelude.{◌≡◌, ℕ, List, Option, Some, None}
use Rattle.pm_logic.specs.declared.problem.Class.{Class}
use Rattle.pm_logic.specs.declared.problem.Start.{Start}
use Rattle.pm_logic.specs.declared.tableau.BoundKind.{BoundKind}
use Rattle.pm_logic.specs.Problem.{Problem}
use Rattle.pm_logic.specs.Tableau.{Tableau}
use Rattle.pm_calculus.specs.Connection.{Level}
use Rattle.pm_calculus.specs.Choices.{IsReached, IsComplete, IsGeneral, width}
use Rattle.pm_space.specs.Key.{Key}
use Rattle.pm_deepen.specs.declared.DeepEnd.{DeepEnd}
use Rattle.pm_deepen.specs.declared.DeepEnd.TheVariants.{Proof, DepthReached, BudgetOut}
use Rattle.pm_deepen.specs.Answer.{IsAnswer}

-- the key of a level of the calculus
abbrev pub key_of : Level → Key
key_of level =
    record { width = width level; reached = IsReached level; complete = IsComplete level }

-- What a problem is searched with: a class, a start rule, what bounds the tableaux of a level, the
-- last level, and the attempts that each level may take.
pub record Options : Type 0 where
  pub class : Class
  pub start : Start
  pub bound : BoundKind
  pub depth : ℕ
  pub budget : ℕ

-- a level of a problem
abbrev pub level_at : Problem → Options → ℕ → Level
level_at problem options level =
    record {
      problem = problem;
      class = options.class;
      start = options.start;
      kind = options.bound;
      bound = level;
    }

-- a proof goes with the general tableau of its list; no other end has a tableau
abbrev pub GoesWith : Problem → Options → DeepEnd → Option Tableau → Type 0
GoesWith problem options (Proof level path work) (Some tableau) =
    IsGeneral (level_at problem options level) path tableau
GoesWith problem options (Proof level path work) None = ⊥
GoesWith problem options DepthReached (Some tableau) = ⊥
GoesWith problem options DepthReached None = Unit {0}
GoesWith problem options (BudgetOut level) (Some tableau) = ⊥
GoesWith problem options (BudgetOut level) None = Unit {0}

-- The answer of a problem: the works of its exhausted levels, how the search ends, and the tableau
-- where it ends with a proof.
pub record IsAnswerOf (problem : Problem) (options : Options) (works : List ℕ) (end : DeepEnd)
    (tableau : Option Tableau) : Type 0 where
  pub search :
      IsAnswer (λ level. key_of (level_at problem options level))
      options.depth options.budget works end
  pub goes : GoesWith problem options end tableau

-- two answers of a problem are equal
abbrev pub AnswerIsDetermined : Type 0
AnswerIsDetermined =
    (problem : Problem) (options : Options) (works others : List ℕ) (end other : DeepEnd)
    (tableau second : Option Tableau)
    → IsAnswerOf problem options works end tableau → IsAnswerOf problem options others other second
    → (works ≡ others) × (end ≡ other) × (tableau ≡ second)
