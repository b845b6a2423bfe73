-- Laws of pools, and of their marks.
use Rattle.std.specs.Prelude.{◌≡◌, ℕ, ◌≤◌, List, [], ◌++◌, All, length, take}
use Rattle.pm_store.specs.Equations.{Equations}
use Rattle.pm_store.specs.Sound.{IsSound}
use Rattle.pm_store.specs.Marks.{Counts, counts_of, IsLater, bound_since}
use Rattle.pm_diseq.specs.Notes.{Note, pairs_of}
use Rattle.pm_diseq.specs.Standing.{AreIdentical, StandsAt, StoodBefore}

-- where nothing is written down, the pool stands
abbrev pub EmptyPoolsStand : Type 0
EmptyPoolsStand = (s : Equations) → StandsAt s []

-- a pool stands still when the store has new cells and no new bindings
abbrev pub PoolsStandLater : Type 0
PoolsStandLater = (s later : Equations) (pool : List Note) → StandsAt s pool → IsLater s later
    → later.bindings ≡ s.bindings → StandsAt later pool

-- where a pool stands no kept pair is identical
abbrev pub StandingPairsAreApart : Type 0
StandingPairsAreApart = (s : Equations) (pool : List Note) → IsSound s → StandsAt s pool
    → All (λ pair. ¬ AreIdentical s pair) (pairs_of pool)

-- where a pool stood at a store when this gave a mark, it stood before exactly the variables that
-- the store has bound since the mark
abbrev pub PoolsStoodAtMarks : Type 0
PoolsStoodAtMarks = (s now : Equations) (pool : List Note) (mark : Counts) → IsSound s
    → StandsAt s pool → IsLater s now → mark ≡ counts_of s
    → StoodBefore now pool (bound_since now mark)

-- the pool has the mark still, and has there what it had
pub record Lasts (pool grown : List Note) (mark : ℕ) : Type 0 where
  pub has : mark ≤ length grown
  pub same : take mark grown ≡ take mark pool

-- marks last while a pool grows, and its newest mark restores it
pub record MarksLastIn (pool more : List Note) : Type 0 where
  pub each : (mark : ℕ) → mark ≤ length pool → Lasts pool (pool ++ more) mark
  pub restores : take (length pool) (pool ++ more) ≡ pool

abbrev pub PoolMarksLast : Type 0
PoolMarksLast = (pool more : List Note) → MarksLastIn pool more

-- a pool at a mark has the earlier marks still
abbrev pub PoolMarksNest : Type 0
PoolMarksNest = (pool : List Note) (early late : ℕ) → early ≤ late → late ≤ length pool
    → Lasts pool (take late pool) early
