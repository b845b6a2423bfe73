-- The trees of a table of terms.
use Rattle.std.specs.Prelude.{◌≡◌, ℕ, ◌+◌, ◌<◌, ◌⊎◌, List, [], ◌∷◌, ◌++◌, All, Contains, Some, map, slice_get}
use Rattle.pm_logic.specs.declared.terms.Entry.{Entry}
use Rattle.pm_logic.specs.declared.terms.Entry.TheVariants.{Var, App}
use Rattle.pm_logic.specs.Lists.{AreDistinct}
use Rattle.pm_logic.specs.Term.{Term, var, app, as_terms, tree_at}

-- the tree of an entry over the trees of the rows before it
abbrev pub tree_of : List Term → Entry → Term
tree_of before (Var n) = var n
tree_of before (App symbol args) = app symbol (as_terms (map (tree_at before) args.items))

-- the trees of entries, each over those before it
abbrev pub trees_from : List Term → List Entry → List Term
trees_from before [] = before
trees_from before (e ∷ es) = trees_from (before ++ tree_of before e ∷ []) es

abbrev pub trees : List Entry → List Term
trees es = trees_from [] es

-- the rows that an entry names come before this row
abbrev pub PointsBelow : ℕ → Entry → Type 0
PointsBelow row (Var n) = Unit {0}
PointsBelow row (App symbol args) = All (λ arg. arg < row) args.items

-- the rows that each entry names come before its own, the first of them at this row
abbrev pub PointDown : ℕ → List Entry → Type 0
PointDown row [] = Unit {0}
PointDown row (e ∷ es) = PointsBelow row e × PointDown (row + 1) es

-- how many of the terms are variables
abbrev pub variable_count : List Term → ℕ
variable_count [] = 0
variable_count (var n ∷ ts) = 1 + variable_count ts
variable_count (app symbol args ∷ ts) = variable_count ts

-- entries name rows before their own, no two have the same tree, and the variables are the first so
-- many
pub record IsTable (es : List Entry) (vars : ℕ) : Type 0 where
  pub below : PointDown 0 es
  pub distinct : AreDistinct (trees es)
  pub counted : variable_count (trees es) ≡ vars
  pub numbered : (n : ℕ) → Contains (trees es) (var n) → n < vars

-- a term was given a row: its own where it had one, else the next
pub record Adds (old new : List Term) (term : Term) (row : ℕ) : Type 0 where
  pub stands : slice_get new row ≡ Some term
  pub grows : ((new ≡ old) × Contains old term) ⊎ ((new ≡ old ++ term ∷ []) × (¬ Contains old term))
