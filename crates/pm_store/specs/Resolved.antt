-- What a resolver has given: a row for each resolved cell, and the free variables by their numbers.
use Rattle.std.specs.Prelude.{◌≡◌, ◌≢◌, ℕ, suc, ◌≤◌, ◌==◌, if◌then◌else◌, List, [], ◌∷◌, ◌++◌, Option, Some, None, Contains, length, slice_get}
use Rattle.pm_logic.specs.Lists.{AreDistinct}
use Rattle.pm_logic.specs.Term.{Term, var, app, Terms, no_terms, more_terms}
use Rattle.pm_logic.specs.Table.{variable_count}
use Rattle.pm_logic.specs.Filling.{fill}
use Rattle.pm_store.specs.Equations.{Equations, IsFree}
use Rattle.pm_store.specs.Trees.{tree, Occurs, IsPart}

-- the row of each cell that was resolved, and the free variables in the order of their numbers
pub record Resolved : Type 0 where
  pub rows : List (ℕ × ℕ)
  pub free : List ℕ

abbrev pub nothing_resolved : Resolved
nothing_resolved = record { rows = []; free = [] }

-- the row of a cell among cells with their rows
abbrev pub row_among : List (ℕ × ℕ) → ℕ → Option ℕ
row_among [] cell = None
row_among (e ∷ es) cell = if cell == e.0 then Some e.1 else row_among es cell

abbrev pub row_of : Resolved → ℕ → Option ℕ
row_of r = row_among r.rows

-- the variables, with this one as the last if it is new
abbrev pub with_variable : List ℕ → ℕ → List ℕ
with_variable [] v = v ∷ []
with_variable (w ∷ ws) v = if w == v then w ∷ ws else w ∷ with_variable ws v

-- the variables, then the new ones of a term by first occurrence, from left to right
abbrev mutual
  pub with_variables : List ℕ → Term → List ℕ
  with_variables vs (var v) = with_variable vs v
  with_variables vs (app symbol args) = with_variables_among vs args

  pub with_variables_among : List ℕ → Terms → List ℕ
  with_variables_among vs no_terms = vs
  with_variables_among vs (more_terms t ts) = with_variables_among (with_variables vs t) ts

-- the number of a variable: its place in the list
abbrev pub number_of : List ℕ → ℕ → ℕ
number_of [] v = 0
number_of (w ∷ ws) v = if w == v then 0 else suc (number_of ws v)

-- a variable by its number
abbrev pub numbered : List ℕ → ℕ → Term
numbered vs v = var (number_of vs v)

-- the row's tree is the cell's, with the number of each variable in its place
pub record HasRow (s : Equations) (free : List ℕ) (table : List Term) (cell row : ℕ) : Type 0 where
  pub stands : slice_get table row ≡ Some (fill (numbered free) (tree s cell))
  pub variables : (v : ℕ) → Occurs v (tree s cell) → Contains free v

-- the resolver was used with this store and this table alone, and has numbered the table's
-- variables
pub record IsResolved (s : Equations) (r : Resolved) (table : List Term) : Type 0 where
  pub rows : (cell row : ℕ) → row_of r cell ≡ Some row → HasRow s r.free table cell row
  pub free : (v : ℕ) → Contains r.free v → IsFree s v × (row_of r v ≢ None)
  pub distinct : AreDistinct r.free
  pub count : variable_count table ≡ length r.free

-- rows, variables and terms were added, and none was taken away
pub record IsMore (r : Resolved) (table : List Term) (new : Resolved)
    (grown : List Term) : Type 0 where
  pub rows : (more : List (ℕ × ℕ)) × (new.rows ≡ r.rows ++ more)
  pub free : (more : List ℕ) × (new.free ≡ r.free ++ more)
  pub terms : (more : List Term) × (grown ≡ table ++ more)

-- each term that was added stands in this one (opened only by a proof that asks for it)
unfoldable pub AddsPartsOf : Term → List Term → List Term → Type 0
AddsPartsOf whole table grown = (row : ℕ) (t : Term) → length table ≤ row
    → slice_get grown row ≡ Some t → IsPart t whole
