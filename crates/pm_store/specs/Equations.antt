-- Equations between cells: each cell is a variable or an application, and variables are bound to
-- cells.
use Rattle.std.specs.Prelude.{◌≡◌, ℕ, suc, ◌+◌, ◌==◌, is_none, if◌then◌else◌, List, [], ◌∷◌, ◌++◌, replicate, Option, Some, None, slice_get}
use Rattle.pm_store.specs.Entries.{Entry, Variable, Application}

-- a variable and the cell that it is bound to
pub record Binding : Type 0 where
  pub variable : ℕ
  pub target : ℕ

-- the cells, and the bindings of variables, newest first
pub record Equations : Type 0 where
  pub cells : List Entry
  pub bindings : List Binding

abbrev pub no_equations : Equations
no_equations = record { cells = []; bindings = [] }

abbrev pub with_cell : Equations → Entry → Equations
with_cell s entry = record { cells = s.cells ++ entry ∷ []; bindings = s.bindings }

-- so many more cells, each a variable
abbrev pub with_new_variables : Equations → ℕ → Equations
with_new_variables s count = record {
  cells = s.cells
      ++ replicate count Variable;
  bindings = s.bindings;
}

abbrev pub with_binding : Equations → ℕ → ℕ → Equations
with_binding s v t =
    record { cells = s.cells; bindings = record { variable = v; target = t } ∷ s.bindings }

-- what a variable is bound to, if it is bound
abbrev pub target_of : List Binding → ℕ → Option ℕ
target_of [] v = None
target_of (b ∷ bs) v = if b.variable == v then Some b.target else target_of bs v

-- the cell at the end of the bindings from a cell
abbrev pub end_of : List Binding → ℕ → ℕ
end_of [] c = c
end_of (b ∷ bs) c = if end_of bs c == b.variable then end_of bs b.target else end_of bs c

-- the cell is a variable that isn't bound
pub record IsFree (s : Equations) (v : ℕ) : Type 0 where
  pub variable : slice_get s.cells v ≡ Some Variable
  pub unbound : target_of s.bindings v ≡ None

-- one for a variable that isn't bound
abbrev pub free_at : List Binding → ℕ → Entry → ℕ
free_at bs row Variable = if is_none (target_of bs row) then 1 else 0
free_at bs row (Application symbol args) = 0

-- how many of the cells, the first of them at this number, are variables that aren't bound
abbrev pub free_among : List Binding → ℕ → List Entry → ℕ
free_among bs row [] = 0
free_among bs row (e ∷ es) = free_at bs row e + free_among bs (suc row) es

abbrev pub free_count : Equations → ℕ
free_count s = free_among s.bindings 0 s.cells
