-- Which rows of a table are ground terms, and which terms can be compiled.
use Rattle.std.specs.Prelude.{◌≡◌, ℕ, ◌<◌, ◌≤◌, ◌^◌, false, List, length}
use Rattle.pm_logic.specs.Term.{Term, tree_at}
use Rattle.pm_logic.specs.Problem.{Symbol, IsTermOver}
use Rattle.pm_compile.specs.Scheme.{is_among, is_ground}

-- the rows are those of the ground terms
abbrev pub AreGround : List Term → List ℕ → Type 0
AreGround terms rows =
    (row : ℕ) → row < length terms → is_among row rows ≡ is_ground (tree_at terms row)

-- of the first so many rows, those are the ground terms, and no further one is among them
pub record AreGroundBelow (terms : List Term) (rows : List ℕ) (upto : ℕ) : Type 0 where
  pub below : (row : ℕ) → row < upto → is_among row rows ≡ is_ground (tree_at terms row)
  pub beyond : (row : ℕ) → upto ≤ row → is_among row rows ≡ false

-- a row of the table, whose term is over the symbols and has numbers of 32 bits for its variables
abbrev pub IsRowOver : List Symbol → List Term → ℕ → Type 0
IsRowOver symbols terms row = (row < length terms)
    × ((vars : ℕ) × (vars < 2 ^ 32) × IsTermOver symbols vars (tree_at terms row))
