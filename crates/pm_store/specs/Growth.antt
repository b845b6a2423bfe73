-- What holds when a store has got new cells: each fact is opened only by a proof that asks for it.
use Rattle.std.specs.Prelude.{◌≡◌, ℕ, ◌+◌, ◌<◌, ◌≤◌, List, map}
use Rattle.pm_logic.specs.Term.{Term, app, as_terms}
use Rattle.pm_store.specs.Equations.{Equations, IsFree}
use Rattle.pm_store.specs.Solutions.{Solves, with_tree}
use Rattle.pm_store.specs.Trees.{tree, KeepsTrees}
use Rattle.pm_store.specs.Sound.{IsSound}

-- the new variable is free, and the cells before it have their trees still
unfoldable pub GainsVariable : Equations → Equations → ℕ → Type 0
GainsVariable old new v = record {
  free : IsFree new v;
  trees : KeepsTrees old new;
  sound : IsSound new;
}

-- so of several new variables
unfoldable pub GainsVariables : Equations → Equations → ℕ → ℕ → Type 0
GainsVariables old new first count = record {
  free : (v : ℕ) → first ≤ v → v < first + count → IsFree new v;
  trees : KeepsTrees old new;
  sound : IsSound new;
}

-- the new cell has the symbol over the arguments' trees, and each solution goes on with such a tree
unfoldable pub GainsApplication : Equations → Equations → ℕ → List ℕ → ℕ → Type 0
GainsApplication old new symbol args cell = record {
  tree : tree new cell ≡ app symbol (as_terms (map (tree old) args));
  solutions : (trees : ℕ → Term) → Solves old trees
      → Solves new (with_tree trees cell (app symbol (as_terms (map trees args))));
  trees : KeepsTrees old new;
  sound : IsSound new;
}
