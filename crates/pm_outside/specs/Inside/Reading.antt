-- What one read of a file does.
use Rattle.std.specs.Prelude.{◌≡◌, ◌⊎◌, ℕ, ◌<◌, List, ◌++◌, length, Option}
use Rattle.std.specs.Io.KnownBytes.{Consumes, IsAtEnd}
use Rattle.pm_outside.specs.declared.library.FetchFault.{FetchFault}
use Rattle.pm_outside.specs.declared.library.FetchFault.TheVariants.{Failed, Memory}

-- new is old and so many bytes, which the reader had before and lost; it gives none only at its end
pub record Reads (before after : Option (List ℕ)) (old new : List ℕ) (count : ℕ) : Type 0 where
  pub piece : List ℕ
  pub appended : new ≡ old ++ piece
  pub counted : length piece ≡ count
  pub consumed : Consumes before after piece
  pub ended : count ≡ 0 → IsAtEnd after

-- The reader lost the beginning of what stands in the buffer, and not all of it: the rest is room
-- for a read that gave nothing.
abbrev pub HasBegunRead : Option (List ℕ) → Option (List ℕ) → List ℕ → Type 0
HasBegunRead before after bytes =
    (piece : List ℕ) × Consumes before after piece × (length piece < length bytes)

-- a fault of a file that is there
abbrev pub IsReadFault : FetchFault → Type 0
IsReadFault fault = (fault ≡ Failed) ⊎ (fault ≡ Memory)
