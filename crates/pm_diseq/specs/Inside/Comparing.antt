-- What a comparison of two lists of cells tells, and what it keeps on its way.
use Rattle.std.specs.Prelude.{◌≡◌, ℕ, ◌+◌, ◌<◌, ◌⊎◌, Bool, true, false, List, [], ◌∷◌, ◌++◌, All, Contains, length, map}
use Rattle.pm_logic.specs.Term.{Term}
use Rattle.pm_store.specs.Equations.{Equations, IsFree}
use Rattle.pm_store.specs.Solutions.{Solves}
use Rattle.pm_store.specs.Trees.{tree, size}
use Rattle.pm_store.specs.Sound.{IsSound}
use Rattle.pm_store.specs.Marks.{IsLater}
use Rattle.pm_diseq.specs.declared.comparison.Difference.{Difference}
use Rattle.pm_diseq.specs.declared.comparison.Difference.TheVariants.{Nothing, Clash, OneVariable, TwoVariables}
use Rattle.pm_diseq.specs.Notes.{Pair}
use Rattle.pm_diseq.specs.Standing.{AreIdentical}
use Rattle.pm_diseq.specs.Inside.Support.{IsSupported}

-- the pair stays apart as long as these free variables stay free
pub record StaysApart (s : Equations) (vs : List ℕ) (pair : Pair) : Type 0 where
  pub free : All (IsFree s) vs
  pub apart : (later : Equations) → IsLater s later → IsSound later → All (IsFree later) vs
      → ¬ AreIdentical later pair

abbrev pub Tells : Equations → Pair → Difference → Type 0
Tells s pair Nothing = AreIdentical s pair
Tells s pair Clash = StaysApart s [] pair
Tells s pair (OneVariable v) = StaysApart s (v ∷ []) pair
Tells s pair (TwoVariables v w) = StaysApart s (v ∷ w ∷ []) pair

-- what counts as new may be noted, as the last; anything else was noted before
abbrev pub MayNote : List (ℕ × ℕ) → ℕ × ℕ → List (ℕ × ℕ) → Bool → Type 0
MayNote before p after true = (after ≡ before) ⊎ (after ≡ before ++ p ∷ [])
MayNote before p after false = (after ≡ before) × Contains before p

abbrev pub IsEqual : (ℕ → Term) → ℕ × ℕ → Type 0
IsEqual trees p = trees p.0 ≡ trees p.1

abbrev pub pair_size : (ℕ → Term) → ℕ × ℕ → ℕ
pair_size trees p = size (trees p.0) + size (trees p.1)

abbrev pub AreCells : Equations → ℕ × ℕ → Type 0
AreCells s p = (p.0 < length s.cells) × (p.1 < length s.cells)

-- on the way of a comparison: identical lists make what is pending equal in each solution, and the
-- lists are identical if what is pending, or was taken apart, is equal
pub record Compares (s : Equations) (pair : Pair) (pending taken : List (ℕ × ℕ)) : Type 0 where
  pub within : All (AreCells s) pending
  pub forced : (trees : ℕ → Term) → Solves s trees → map trees pair.left ≡ map trees pair.right
      → All (IsEqual trees) pending
  pub enough : All (IsEqual (tree s)) pending → All (IsEqual (tree s)) taken → AreIdentical s pair
  pub supported : IsSupported (pair_size (tree s)) (IsEqual (tree s)) pending taken
