-- The problem of the tests.
use Rattle.std.specs.Prelude.{◌≡◌, ℕ, ◌<◌, ◌≤◌, List, [], ◌∷◌, All, length, codes}
use Rattle.pm_logic.specs.declared.symbols.Kind.TheVariants.{Predicate, Function}
use Rattle.pm_logic.specs.declared.problem.Literal.{Literal}
use Rattle.pm_logic.specs.declared.problem.Clause.{Clause}
use Rattle.pm_logic.specs.Term.{Term, var, app, no_terms}
use Rattle.pm_logic.specs.Problem.{Symbol}

-- the predicate p and the constant a
abbrev pub example_symbols : List Symbol
example_symbols =
    record { text = codes "p"; arity = 1; kind = Predicate }
    ∷ record { text = codes "a"; arity = 0; kind = Function }
    ∷ []

-- the variable and the constant
abbrev pub example_terms : List Term
example_terms = var 0 ∷ app 1 no_terms ∷ []

-- a literal of the predicate p
pub record IsExampleLiteral (literal : Literal) : Type 0 where
  pub predicate : literal.predicate ≡ 0
  pub row : ℕ
  pub args : literal.args.items ≡ row ∷ []
  pub there : row < 2

-- a clause of such literals over one variable
pub record IsExampleClause (clause : Clause) : Type 0 where
  pub vars : clause.vars ≡ 1
  pub few : length clause.literals.items ≤ 255
  pub literals : All IsExampleLiteral clause.literals.items
