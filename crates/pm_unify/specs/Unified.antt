-- What unification answers.
use Rattle.std.specs.Prelude.{◌≡◌, ◌≢◌, ℕ, Bool, true, false}
use Rattle.pm_logic.specs.Term.{Term}
use Rattle.pm_store.specs.Equations.{Equations}
use Rattle.pm_store.specs.Solutions.{Solves, Narrows}
use Rattle.pm_store.specs.Sound.{IsSound}
use Rattle.pm_store.specs.Marks.{IsLater}

-- bindings were added, so that the solutions are exactly the old ones in which both cells are equal
pub record IsUnified (old new : Equations) (a b : ℕ) : Type 0 where
  pub cells : new.cells ≡ old.cells
  pub later : IsLater old new
  pub sound : IsSound new
  pub solutions : Narrows old new (λ trees. trees a ≡ trees b)

-- no solution makes both cells equal
abbrev pub CannotUnify : Equations → ℕ → ℕ → Type 0
CannotUnify s a b = (trees : ℕ → Term) → Solves s trees → trees a ≢ trees b

abbrev pub Answers : Equations → Equations → ℕ → ℕ → Bool → Type 0
Answers old new a b true = IsUnified old new a b
Answers old new a b false = (new ≡ old) × CannotUnify old a b
