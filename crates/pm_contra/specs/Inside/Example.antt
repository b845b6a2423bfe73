-- The problems of the tests: clauses over the predicate p, the constant a and the function f.
use Rattle.std.specs.Prelude.{◌≡◌, ℕ, ◌<◌, ◌≤◌, List, [], ◌∷◌, All, length, codes}
use Rattle.pm_logic.specs.declared.problem.Literal.{Literal}
use Rattle.pm_logic.specs.declared.problem.Clause.{Clause}
use Rattle.pm_logic.specs.declared.symbols.Kind.TheVariants.{Predicate, Function}
use Rattle.pm_logic.specs.Problem.{Symbol}

abbrev pub symbol_p : Symbol
symbol_p = record { text = codes "p"; arity = 1; kind = Predicate }

abbrev pub symbol_a : Symbol
symbol_a = record { text = codes "a"; arity = 0; kind = Function }

abbrev pub symbol_f : Symbol
symbol_f = record { text = codes "f"; arity = 1; kind = Function }

abbrev pub example_symbols : List Symbol
example_symbols = symbol_p ∷ symbol_a ∷ symbol_f ∷ []

-- the literal is one of p, whose argument is a row of so many
pub record IsExampleLiteral (count : ℕ) (literal : Literal) : Type 0 where
  pub of_p : literal.predicate ≡ 0
  pub one : length literal.args.items ≡ 1
  pub rows : All (λ row. row < count) literal.args.items

-- the clause has such literals, over one variable
pub record IsExampleClause (count : ℕ) (clause : Clause) : Type 0 where
  pub one_variable : clause.vars ≡ 1
  pub few : length clause.literals.items ≤ 255
  pub each : All (IsExampleLiteral count) clause.literals.items
