-- How entries are kept, each once.
use Rattle.std.specs.Prelude.{◌≡◌, ℕ, ◌⊎◌, List, [], ◌∷◌, ◌++◌, Some, length, slice_get}
use Rattle.pm_logic.specs.declared.terms.Entry.{Entry}
use Rattle.pm_logic.specs.declared.terms.Entry.TheVariants.{Var, App}

-- the same variable, or the same symbol with the same rows
abbrev pub IsSame : Entry → Entry → Type 0
IsSame (Var m) (Var n) = m ≡ n
IsSame (Var m) (App symbol args) = ⊥
IsSame (App symbol args) (Var n) = ⊥
IsSame (App f rows) (App g others) = (f ≡ g) × (rows.items ≡ others.items)

-- the row is that of an entry that is the same, and nothing was added
pub record IsFound (old new : List Entry) (entry : Entry) (row : ℕ) : Type 0 where
  pub known : Entry
  pub stands : slice_get old row ≡ Some known
  pub same : IsSame entry known
  pub unchanged : new ≡ old

-- no entry was the same, and this one got the next row
pub record IsNew (old new : List Entry) (entry : Entry) (row : ℕ) : Type 0 where
  pub next : row ≡ length old
  pub grown : new ≡ old ++ entry ∷ []
  pub absent : (n : ℕ) (known : Entry) → slice_get old n ≡ Some known → ¬ IsSame entry known

-- an entry was given a row
abbrev pub Interns : List Entry → List Entry → Entry → ℕ → Type 0
Interns old new entry row = IsFound old new entry row ⊎ IsNew old new entry row
