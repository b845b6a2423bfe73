-- What solves equations between cells.
use Rattle.std.specs.Prelude.{◌≡◌, ◌↔◌, ℕ, ◌==◌, nat_lt, if◌then◌else◌, List, Some, All, map, slice_get}
use Rattle.pm_logic.specs.Term.{Term, app, as_terms}
use Rattle.pm_store.specs.Entries.{Application}
use Rattle.pm_store.specs.Equations.{Equations}

-- Each cell has a tree: that of an application is its symbol over its arguments' trees, and a bound
-- variable has the tree of what it is bound to. Trees are finite.
pub record Solves (s : Equations) (tree : ℕ → Term) : Type 0 where
  pub applications : (cell symbol : ℕ) (args : List ℕ)
      → slice_get s.cells cell ≡ Some (Application symbol args)
      → tree cell ≡ app symbol (as_terms (map tree args))
  pub bindings : All (λ b. tree b.variable ≡ tree b.target) s.bindings

-- the solutions of the new store are exactly the old one's in which this holds
abbrev pub Narrows : Equations → Equations → ((ℕ → Term) → Type 0) → Type 0
Narrows old new holds = (trees : ℕ → Term) → Solves new trees ↔ (Solves old trees × holds trees)

-- the trees, with this one for a cell
abbrev pub with_tree : (ℕ → Term) → ℕ → Term → ℕ → Term
with_tree trees cell t c = if c == cell then t else trees c

-- the trees below a cell, and others from there on
abbrev pub with_trees : (ℕ → Term) → ℕ → (ℕ → Term) → ℕ → Term
with_trees trees first others c = if nat_lt c first then trees c else others c
