-- What always holds of a store.
use Rattle.std.specs.Prelude.{ℕ, suc, ◌<◌, List, [], ◌∷◌, All, length}
use Rattle.pm_store.specs.Entries.{Entry, Variable, Application}
use Rattle.pm_store.specs.Equations.{Binding, Equations, IsFree}
use Rattle.pm_store.specs.Trees.{tree, Occurs}

-- the cells that an entry names come before this one
abbrev pub PointsBelow : ℕ → Entry → Type 0
PointsBelow cell Variable = Unit {0}
PointsBelow cell (Application symbol args) = All (λ arg. arg < cell) args

-- the cells that each entry names come before its own, the first of them at this number
abbrev pub PointDown : ℕ → List Entry → Type 0
PointDown cell [] = Unit {0}
PointDown cell (e ∷ es) = PointsBelow cell e × PointDown (suc cell) es

-- the variable is free, and doesn't occur in the tree of that cell
pub record CanBind (s : Equations) (v t : ℕ) : Type 0 where
  pub free : IsFree s v
  pub within : t < length s.cells
  pub apart : ¬ Occurs v (tree s t)

-- each binding could be made over those before it
abbrev pub AreMade : List Entry → List Binding → Type 0
AreMade cells [] = Unit {0}
AreMade cells (b ∷ bs) = CanBind (record { cells = cells; bindings = bs }) b.variable b.target
    × AreMade cells bs

-- cells point below themselves, and bindings make no cycle
pub record IsSound (s : Equations) : Type 0 where
  pub down : PointDown 0 s.cells
  pub made : AreMade s.cells s.bindings
