-- When the pairs of a pool are known to be apart.
use Rattle.std.specs.Prelude.{◌≡◌, ◌↔◌, ℕ, ◌<◌, List, All, Contains, length, map}
use Rattle.pm_store.specs.Equations.{Equations, IsFree}
use Rattle.pm_store.specs.Trees.{tree}
use Rattle.pm_store.specs.Sound.{IsSound}
use Rattle.pm_store.specs.Marks.{IsLater}
use Rattle.pm_diseq.specs.Notes.{Pair, Note, Waits, pairs_of}

-- the lists are the same terms
abbrev pub AreIdentical : Equations → Pair → Type 0
AreIdentical s pair = map (tree s) pair.left ≡ map (tree s) pair.right

-- the lists are as long as each other, and of cells of the store
pub record IsWithin (s : Equations) (pair : Pair) : Type 0 where
  pub count : length pair.left ≡ length pair.right
  pub left : All (λ c. c < length s.cells) pair.left
  pub right : All (λ c. c < length s.cells) pair.right

-- the kept pairs are of cells of the store, and only they wait
pub record ArePairsOf (s : Equations) (pool : List Note) : Type 0 where
  pub within : All (IsWithin s) (pairs_of pool)
  pub waiting : (pair : Pair) (v : ℕ) → Contains pool (Waits pair v)
      → Contains (pairs_of pool) pair

-- the pair stays apart as long as the free variables at which it waits stay free
abbrev pub IsKeptApart : Equations → List Note → Pair → Type 0
IsKeptApart s pool pair = (later : Equations) → IsLater s later → IsSound later
    → ((v : ℕ) → Contains pool (Waits pair v) → IsFree s v → IsFree later v)
    → ¬ AreIdentical later pair

-- the pool stands at the store: each kept pair waits at variables that keep it apart
pub record StandsAt (s : Equations) (pool : List Note) : Type 0 where
  pub pairs : ArePairsOf s pool
  pub apart : All (IsKeptApart s pool) (pairs_of pool)

-- the pool stood at a store from which this one has grown, and of the variables that were free
-- exactly these were bound since
pub record StoodBefore (s : Equations) (pool : List Note) (bound : List ℕ) : Type 0 where
  pub before : Equations
  pub stood : StandsAt before pool
  pub later : IsLater before s
  pub exactly : (v : ℕ) → IsFree before v → IsFree s v ↔ (¬ Contains bound v)
