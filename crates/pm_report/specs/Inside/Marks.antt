-- Marks for the rows of a table of terms.
use Rattle.std.specs.Prelude.{◌≡◌, ◌==◌, ℕ, ◌<◌, Bool, true, false, List, Contains}
use Rattle.std.specs.Prelude.{slice_index_or}
use Rattle.std.specs.List.{list_any}
use Rattle.pm_logic.specs.Term.{Term, app, tree_at, list_of, Terms}

-- the row has a mark
abbrev pub has_mark : List Bool → ℕ → Bool
has_mark marks row = slice_index_or marks row false

abbrev pub is_row_among : ℕ → List ℕ → Bool
is_row_among row rows = list_any (λ r. r == row) rows

-- each argument of the row's term has a row with a mark
abbrev pub AreArgsMarked : List Term → List Bool → ℕ → Type 0
AreArgsMarked terms marks row = (symbol : ℕ) (args : Terms) → tree_at terms row ≡ app symbol args
    → (t : Term) → Contains (list_of args) t
    → (arg : ℕ) × (tree_at terms arg ≡ t) × (has_mark marks arg ≡ true)

-- the first row comes before the second, and its term is an argument of that of the second
abbrev pub IsArgOf : List Term → ℕ → ℕ → Type 0
IsArgOf terms arg row = (arg < row) × ((symbol : ℕ) × (args : Terms)
    × (tree_at terms row ≡ app symbol args) × Contains (list_of args) (tree_at terms arg))
