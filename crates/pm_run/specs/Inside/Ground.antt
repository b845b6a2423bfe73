-- The cells of ground terms, while they are made.
use Rattle.std.specs.Prelude.{◌≡◌, ℕ, false, List, [], ◌∷◌, Option, None, Some, slice_get}
use Rattle.std.specs.List.{list_all}
use Rattle.pm_logic.specs.Term.{Term, tree_at}
use Rattle.pm_store.specs.Equations.{Equations}
use Rattle.pm_compile.specs.Scheme.{is_ground}
use Rattle.pm_run.specs.Meaning.{IsCellOf}

-- the cell of a term, and none if it isn't ground
abbrev pub IsGroundCell : Equations → Term → Option ℕ → Type 0
IsGroundCell s t (Some c) = IsCellOf s t c
IsGroundCell s t None = is_ground t ≡ false

-- so of each row
abbrev pub AreGroundCells : List Term → List (Option ℕ) → Equations → Type 0
AreGroundCells terms cells s =
    (row : ℕ) (cell : Option ℕ) → slice_get cells row ≡ Some cell
    → IsGroundCell s (tree_at terms row) cell

-- the cells of the terms of rows, one for each
abbrev pub AreCellsOf : List Term → Equations → List ℕ → List ℕ → Type 0
AreCellsOf terms s [] [] = Unit {0}
AreCellsOf terms s (row ∷ rows) (c ∷ cs) =
    IsCellOf s (tree_at terms row) c × AreCellsOf terms s rows cs
AreCellsOf terms s rows cs = ⊥

-- the cells of the terms of rows, and none if one of the terms isn't ground
abbrev pub AreArgCells : List Term → Equations → List ℕ → Option (List ℕ) → Type 0
AreArgCells terms s rows (Some cells) = AreCellsOf terms s rows cells
AreArgCells terms s rows None = list_all (λ row. is_ground (tree_at terms row)) rows ≡ false
