-- Rows of a table whose terms can be written.
use Rattle.std.specs.Prelude.{ℕ, ◌<◌, List, length}
use Rattle.pm_logic.specs.Problem.{Symbol, IsTermOver}
use Rattle.pm_logic.specs.Term.{Term, tree_at}

-- a row of the table, whose term is over the symbols
abbrev pub IsTerm : List Symbol → List Term → ℕ → Type 0
IsTerm symbols terms row =
    (row < length terms) × ((vars : ℕ) × IsTermOver symbols vars (tree_at terms row))
