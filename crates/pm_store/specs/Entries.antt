-- What a cell is when it is made.
use Rattle.std.specs.Prelude.{ℕ, List}

-- a variable, or a symbol over cells
pub data Entry : Type 0 where
  Variable : Entry
  Application : ℕ → List ℕ → Entry
