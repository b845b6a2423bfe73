-- What becomes of a pool when pairs are looked at.
use Rattle.std.specs.Prelude.{◌≡◌, ℕ, ◌≤◌, Bool, true, false, List, [], ◌++◌, Option, Some, None, All, Contains, length, map, slice_get, slice_index_or}
use Rattle.pm_store.specs.Equations.{Equations}
use Rattle.pm_diseq.specs.Notes.{Pair, as_pair, Note, Kept, Waits, pairs_of}
use Rattle.pm_diseq.specs.Standing.{AreIdentical, IsKeptApart}
use Rattle.pm_diseq.specs.Inside.Entries.{IsNewest}

abbrev pub noted_pair : Note → Pair
noted_pair (Kept pair) = pair
noted_pair (Waits pair v) = pair

-- the pair that is noted at a place
abbrev pub pair_at : List Note → ℕ → Pair
pair_at pool place = noted_pair (slice_index_or pool place (Kept (as_pair [] [])))

-- the variable at which the note's pair waits
abbrev pub watched : Note → Option ℕ
watched (Kept pair) = None
watched (Waits pair v) = Some v

-- a pair waits at the variable at this place
abbrev pub IsPlaceOf : List Note → ℕ → ℕ → Type 0
IsPlaceOf pool place v = slice_get (map watched pool) place ≡ Some (Some v)

-- notes were added
abbrev pub IsGrown : List Note → List Note → Type 0
IsGrown pool grown = (more : List Note) × (grown ≡ pool ++ more)

-- the pair waits at further variables
abbrev pub AddsWaits : Pair → List Note → List Note → Type 0
AddsWaits pair pool grown = (vs : List ℕ) × (grown ≡ pool ++ map (Waits pair) vs)

-- the pair is apart, and the pool keeps it so; or it is identical
abbrev pub Watches : Equations → Pair → List Note → Bool → Type 0
Watches s pair pool true = IsKeptApart s pool pair
Watches s pair pool false = AreIdentical s pair

-- a note that a pair of the pool waits
abbrev pub IsRewait : List Note → Note → Type 0
IsRewait pool (Kept pair) = ⊥
IsRewait pool (Waits pair v) = Contains (pairs_of pool) pair

-- pairs of the pool wait at further variables
pub record Rewaits (pool grown : List Note) : Type 0 where
  pub more : List Note
  pub is : grown ≡ pool ++ more
  pub waits : All (IsRewait pool) more

abbrev pub HasIdentical : Equations → List Note → Type 0
HasIdentical s pool = (pair : Pair) × Contains (pairs_of pool) pair × AreIdentical s pair

-- the pairs that waited at the variable are kept apart now, or one is identical
abbrev pub AreLookedAt : Equations → List Note → ℕ → List Note → Bool → Type 0
AreLookedAt s pool v grown true = (pair : Pair) → Contains pool (Waits pair v)
    → IsKeptApart s grown pair
AreLookedAt s pool v grown false = HasIdentical s pool

-- so of several variables
abbrev pub AreAllLookedAt : Equations → List Note → List ℕ → List Note → Bool → Type 0
AreAllLookedAt s pool vs grown true = (pair : Pair) (v : ℕ) → Contains vs v
    → Contains pool (Waits pair v) → IsKeptApart s grown pair
AreAllLookedAt s pool vs grown false = HasIdentical s pool

-- on the way over the entries that wait at a variable: those from some place on were looked at, and
-- this is the newest place before it
pub record Walks (s : Equations) (first pool : List Note) (v : ℕ) (next : Option ℕ) : Type 0 where
  pub end : ℕ
  pub within : end ≤ length first
  pub more : Rewaits first pool
  pub newest : IsNewest (map watched pool) end v next
  pub looked : (k : ℕ) (pair : Pair) → end ≤ k → slice_get first k ≡ Some (Waits pair v)
      → IsKeptApart s pool pair
