-- What a row of a table shows of its term.
use Rattle.std.specs.Prelude.{◌≡◌, ℕ, ◌<◌, List, All, map}
use Rattle.pm_logic.specs.declared.terms.Row.{Row}
use Rattle.pm_logic.specs.declared.terms.Row.TheVariants.{Var, App}
use Rattle.pm_logic.specs.Table.{variable_count}
use Rattle.pm_logic.specs.Term.{Term, var, app, as_terms, tree_at}

-- a variable's number, below the count of variables; or a symbol with the rows of the arguments,
-- which come before the term's own
abbrev pub Shows : List Term → ℕ → Row → Type 0
Shows terms id (Var n) = (tree_at terms id ≡ var n) × (n < variable_count terms)
Shows terms id (App symbol args) =
    (tree_at terms id ≡ app symbol (as_terms (map (tree_at terms) args.now)))
    × All (λ arg. arg < id) args.now
