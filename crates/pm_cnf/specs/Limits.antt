-- The limits that a file may be read with.
use Rattle.std.specs.Prelude.{◌≤◌}
use Rattle.pm_cnf.specs.declared.limits.Limits.{Limits}

-- no limit is above the standard one
pub record AreUsual (limits : Limits) : Type 0 where
  pub clauses : limits.clauses ≤ 65536
  pub literals : limits.literals ≤ 255
  pub variables : limits.variables ≤ 1000
  pub arity : limits.arity ≤ 255
  pub nesting : limits.nesting ≤ 1000
