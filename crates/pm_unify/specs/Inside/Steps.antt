-- What taking pairs apart makes of them.
use Rattle.std.specs.Prelude.{◌≡◌, ◌≢◌, ◌↔◌, ℕ, ◌<◌, Bool, true, false, List, [], length, ⊤}
use Rattle.pm_logic.specs.Term.{Term, var}
use Rattle.pm_store.specs.Equations.{Equations, IsFree}
use Rattle.pm_store.specs.Solutions.{Solves}
use Rattle.pm_store.specs.Trees.{tree}
use Rattle.pm_unify.specs.declared.pairs.Step.{Step}
use Rattle.pm_unify.specs.declared.pairs.Step.TheVariants.{Done, Clash, Bind}
use Rattle.pm_unify.specs.Unified.{IsUnified, CannotUnify}
use Rattle.pm_unify.specs.Inside.Support.{IsSupported}
use Rattle.pm_unify.specs.Inside.Pairs.{IsEqual, pair_size, ArePairsWithin, AreEqual}

-- the pairs before are equal exactly where this holds and the pairs after are equal
pub record Leaves (s : Equations) (holds : (ℕ → Term) → Type 0)
    (pending taken pending' taken' : List (ℕ × ℕ)) : Type 0 where
  pub within : ArePairsWithin s pending'
  pub same : (trees : ℕ → Term) → Solves s trees → AreEqual trees pending taken ↔ (holds trees
      × AreEqual trees pending' taken')
  pub supported : (trees : ℕ → Term) → Solves s trees → holds trees
      → IsSupported (pair_size trees) (IsEqual trees) pending' taken'

-- the free variable and a cell that isn't this variable are to be made equal, besides the pairs
-- that are left
pub record Binds (s : Equations) (v t : ℕ)
    (pending taken pending' taken' : List (ℕ × ℕ)) : Type 0 where
  pub free : IsFree s v
  pub within : t < length s.cells
  pub other : tree s t ≢ var v
  pub leaves : Leaves s (λ trees. trees v ≡ trees t) pending taken pending' taken'

abbrev pub Takes :
    Equations → List (ℕ × ℕ) → List (ℕ × ℕ) → List (ℕ × ℕ) → List (ℕ × ℕ) → Step → Type 0
Takes s pending taken pending' taken' Done = (pending' ≡ [])
    × Leaves s (λ trees. ⊤) pending taken pending' taken'
Takes s pending taken pending' taken' Clash = (trees : ℕ → Term) → Solves s trees
    → ¬ AreEqual trees pending taken
Takes s pending taken pending' taken' (Bind v t) = Binds s v t pending taken pending' taken'

-- as unification answers, but with the bindings still there
abbrev pub Solved : Equations → Equations → ℕ → ℕ → Bool → Type 0
Solved old new a b true = IsUnified old new a b
Solved old new a b false = CannotUnify old a b
