-- What a pool writes down of the pairs of lists that are to stay apart.
use Rattle.std.specs.Prelude.{◌≡◌, ℕ, List, [], ◌∷◌, ◌++◌}

-- two lists of cells that are to stay apart
pub record Pair : Type 0 where
  pub left : List ℕ
  pub right : List ℕ

abbrev pub as_pair : List ℕ → List ℕ → Pair
as_pair left right = record { left = left; right = right }

-- a pair is kept, or waits at a variable that keeps it apart
pub data Note : Type 0 where
  Kept : Pair → Note
  Waits : Pair → ℕ → Note

-- the kept pairs, in order
abbrev pub pairs_of : List Note → List Pair
pairs_of [] = []
pairs_of (Kept pair ∷ notes) = pair ∷ pairs_of notes
pairs_of (Waits pair v ∷ notes) = pairs_of notes

-- notes were added and none was taken away, and these are the kept pairs now
pub record GrowsTo (pool grown : List Note) (kept : List Pair) : Type 0 where
  pub grows : (more : List Note) × (grown ≡ pool ++ more)
  pub pairs : pairs_of grown ≡ kept
