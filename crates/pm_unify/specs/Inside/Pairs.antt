-- Pairs of cells that are to have the same tree.
use Rattle.std.specs.Prelude.{◌≡◌, ℕ, ◌+◌, ◌<◌, List, All, length}
use Rattle.pm_logic.specs.Term.{Term}
use Rattle.pm_store.specs.Equations.{Equations}
use Rattle.pm_store.specs.Solutions.{Solves}
use Rattle.pm_store.specs.Trees.{size}
use Rattle.pm_unify.specs.Inside.Support.{IsSupported}

abbrev pub IsEqual : (ℕ → Term) → ℕ × ℕ → Type 0
IsEqual trees p = trees p.0 ≡ trees p.1

abbrev pub pair_size : (ℕ → Term) → ℕ × ℕ → ℕ
pair_size trees p = size (trees p.0) + size (trees p.1)

abbrev pub IsPairWithin : Equations → ℕ × ℕ → Type 0
IsPairWithin s p = (p.0 < length s.cells) × (p.1 < length s.cells)

abbrev pub ArePairsWithin : Equations → List (ℕ × ℕ) → Type 0
ArePairsWithin s pairs = All (IsPairWithin s) pairs

-- the trees make the pending pairs and those taken apart equal
abbrev pub AreEqual : (ℕ → Term) → List (ℕ × ℕ) → List (ℕ × ℕ) → Type 0
AreEqual trees pending taken = All (IsEqual trees) pending × All (IsEqual trees) taken

-- in each solution, smaller pairs that are equal make those taken apart equal
abbrev pub AreSupported : Equations → List (ℕ × ℕ) → List (ℕ × ℕ) → Type 0
AreSupported s pending taken = (trees : ℕ → Term) → Solves s trees
    → IsSupported (pair_size trees) (IsEqual trees) pending taken
