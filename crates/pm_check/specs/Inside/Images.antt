-- How images of rows are kept.
use Rattle.std.specs.Prelude.{◌≡◌, ◌↔◌, ℕ, ◌+◌, ◌≤◌, List, [], ◌∷◌, length, Option, Some, None, Contains, slice_get}
use Rattle.pm_check.specs.declared.images.Match.{Match}

-- a row of a table of so many, and its image
abbrev pub sent : ℕ → ℕ → Match
sent row image = record { row = row; image = image }

-- the rows of a table of so many that have images, in the order in which they got them
pub record Found : Type 0 where
  pub count : ℕ
  pub matches : List Match

-- no row of a table of so many has an image
abbrev pub none_of : ℕ → Found
none_of count = record { count = count; matches = [] }

-- each row has one image
abbrev pub AreSingle : List Match → Type 0
AreSingle matches =
    (row image other : ℕ) → Contains matches (sent row image) → Contains matches (sent row other)
    → image ≡ other

-- how many of the rows have none
abbrev pub free_rows : List (Option ℕ) → ℕ
free_rows [] = 0
free_rows (None ∷ rows) = 1 + free_rows rows
free_rows (Some image ∷ rows) = free_rows rows

-- each row has the image that was found for it, and there is room for one for each row
pub record AreKept (rows : List (Option ℕ)) (matches : List Match) (room : ℕ) : Type 0 where
  pub each :
      (row image : ℕ) → slice_get rows row ≡ Some (Some image) ↔ Contains matches (sent row image)
  pub free : free_rows rows + length matches ≡ length rows
  pub fits : length rows ≤ room
