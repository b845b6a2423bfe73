-- How bindings are kept: for each cell what it is bound to, and the bound variables in the order of
-- their binding.
use Rattle.std.specs.Prelude.{◌≡◌, ℕ, List, Option, None, length, map, reverse, slice_index_or, unwrap_or}
use Rattle.pm_store.specs.Entries.{Entry}
use Rattle.pm_store.specs.Equations.{Binding, Equations, target_of}
use Rattle.pm_store.specs.Sound.{IsSound}

-- what a cell is bound to
abbrev pub target_at : List (Option ℕ) → ℕ → Option ℕ
target_at targets cell = slice_index_or targets cell None

abbrev pub binding_at : List (Option ℕ) → ℕ → Binding
binding_at targets v = record { variable = v; target = unwrap_or (target_at targets v) v }

abbrev pub bindings_of : List (Option ℕ) → List ℕ → List Binding
bindings_of targets trail = map (binding_at targets) (reverse trail)

abbrev pub equations_of : List Entry → List (Option ℕ) → List ℕ → Equations
equations_of cells targets trail = record { cells = cells; bindings = bindings_of targets trail }

-- each cell has its target, which is that of the bindings, and the equations are sound
pub record IsStored (cells : List Entry) (targets : List (Option ℕ)) (trail : List ℕ) : Type 0 where
  pub count : length targets ≡ length cells
  pub agree : (v : ℕ) → target_at targets v ≡ target_of (bindings_of targets trail) v
  pub sound : IsSound (equations_of cells targets trail)
