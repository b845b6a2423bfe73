-- Marks, and what a store grew from.
use Rattle.std.specs.Prelude.{◌≡◌, ℕ, ◌-◌, ◌≤◌, List, ◌++◌, length, map, reverse, take, drop}
use Rattle.pm_store.specs.Entries.{Entry}
use Rattle.pm_store.specs.Equations.{Binding, Equations}
use Rattle.pm_store.specs.Sound.{IsSound}

-- how many cells and bindings a store has
pub record Counts : Type 0 where
  pub cells : ℕ
  pub bindings : ℕ

abbrev pub counts_of : Equations → Counts
counts_of s = record { cells = length s.cells; bindings = length s.bindings }

-- cells and bindings were added, and none was taken away
pub record IsLater (before after : Equations) : Type 0 where
  pub cells : (more : List Entry) × (after.cells ≡ before.cells ++ more)
  pub bindings : (more : List Binding) × (after.bindings ≡ more ++ before.bindings)

-- the store has grown from one that had these counts
pub record HasMark (s : Equations) (mark : Counts) : Type 0 where
  pub before : Equations
  pub sound : IsSound before
  pub later : IsLater before s
  pub counts : mark ≡ counts_of before

-- the store with so many cells and bindings alone, the first ones
abbrev pub at_mark : Equations → Counts → Equations
at_mark s mark = record {
  cells = take mark.cells s.cells;
  bindings = drop (length s.bindings - mark.bindings) s.bindings;
}

-- the mark counts no more cells and bindings than the other
pub record IsEarlier (mark other : Counts) : Type 0 where
  pub cells : mark.cells ≤ other.cells
  pub bindings : mark.bindings ≤ other.bindings

-- the bound variables, in the order of their binding
abbrev pub bound_variables : Equations → List ℕ
bound_variables s = map (λ b. b.variable) (reverse s.bindings)

-- the variables that were bound since the mark, in the order of their binding
abbrev pub bound_since : Equations → Counts → List ℕ
bound_since s mark = drop mark.bindings (bound_variables s)
