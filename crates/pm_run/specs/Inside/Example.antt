-- The problem of the tests.
use Rattle.std.specs.Prelude.{◌≡◌, List, All, length}
use Rattle.pm_logic.specs.Problem.{Clause}
use Rattle.pm_calculus.specs.Skeleton.{literals_at}

-- there is one clause, with three literals, each of one argument
pub record HasThreeLiterals (clauses : List Clause) : Type 0 where
  pub one : length clauses ≡ 1
  pub three : length (literals_at clauses 0) ≡ 3
  pub unary : All (λ literal. length literal.args ≡ 1) (literals_at clauses 0)
