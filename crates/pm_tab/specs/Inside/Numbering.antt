-- The numbers of literals without variables.
use Rattle.std.specs.Prelude.{◌≡◌, ◌≢◌, ℕ, ◌+◌, ◌-◌, ◌<◌, true, List, [], All, Some, slice_get}
use Rattle.std.specs.List.{AllZip, flat_map}
use Rattle.pm_logic.specs.Term.{Term}
use Rattle.pm_logic.specs.Problem.{Literal, Clause}
use Rattle.pm_store.specs.Equations.{Equations}
use Rattle.pm_store.specs.Solutions.{Solves}
use Rattle.pm_compile.specs.Scheme.{is_ground}
use Rattle.pm_run.specs.State.{CellLiteral, literal_under}
use Rattle.pm_calculus.specs.Skeleton.{Step, start, extend, reduce, literals_at}

-- the literals of all clauses
abbrev pub all_literals : List Clause → List Literal
all_literals clauses = flat_map (λ clause. clause.literals) clauses

-- no variable stands in the literal
abbrev pub IsGround : Literal → Type 0
IsGround literal = All (λ t. is_ground t ≡ true) literal.args

-- the literal stands first in this place, counted from 1
pub record IsFirstAt (all : List Literal) (literal : Literal) (number : ℕ) : Type 0 where
  pub stands : slice_get all (number - 1) ≡ Some literal
  pub first : (k : ℕ) → k + 1 < number → slice_get all k ≢ Some literal

-- a literal without variables has the number of the place where it stands first, another has 0
pub record IsNumberOf (all : List Literal) (literal : Literal) (number : ℕ) : Type 0 where
  pub ground : 0 < number → IsGround literal × IsFirstAt all literal number
  pub other : number ≡ 0 → ¬ IsGround literal

abbrev pub AreNumbersOf : List Literal → List Literal → List ℕ → Type 0
AreNumbersOf all literals numbers = AllZip (IsNumberOf all) literals numbers

-- the numbers of each clause's literals among those of all
abbrev pub AreNumbers : List Clause → List (List ℕ) → Type 0
AreNumbers clauses numbers =
    AllZip (λ clause own. AreNumbersOf (all_literals clauses) clause.literals own) clauses numbers

-- the literals of which a step gives instances
abbrev pub literals_given : List Clause → Step → List Literal
literals_given clauses (start c) = literals_at clauses c
literals_given clauses (extend c j) = literals_at clauses c
literals_given clauses (reduce k) = []

abbrev pub AreNumbersFor : List Clause → Step → List ℕ → Type 0
AreNumbersFor clauses step numbers =
    AreNumbersOf (all_literals clauses) (literals_given clauses step) numbers

-- the cells are the literal of this number, in whatever solution of the store
pub record StandsFor (all : List Literal) (s : Equations) (cells : CellLiteral)
    (number : ℕ) : Type 0 where
  pub literal : Literal
  pub first : IsFirstAt all literal number
  pub always : (trees : ℕ → Term) → Solves s trees → literal_under trees cells ≡ literal

-- cells that have a number stand for its literal
abbrev pub IsNumberedBy : List Literal → Equations → CellLiteral → ℕ → Type 0
IsNumberedBy all s cells number = 0 < number → StandsFor all s cells number

abbrev pub AreNumberedBy : List Literal → Equations → List CellLiteral → List ℕ → Type 0
AreNumberedBy all s literals numbers = AllZip (IsNumberedBy all s) literals numbers

-- a branch's literals and those of a family have these numbers among some literals
pub record AreNumbered (s : Equations) (above : List CellLiteral) (ids : List ℕ)
    (children : List CellLiteral) (numbers : List ℕ) : Type 0 where
  pub all : List Literal
  pub branch : AreNumberedBy all s above ids
  pub family : AreNumberedBy all s children numbers
