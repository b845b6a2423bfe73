-- The places that a resolver has yet to come to, the next of them last.
use Rattle.std.specs.Prelude.{◌≡◌, ◌≢◌, ℕ, ◌+◌, ◌<◌, ◌≤◌, ◌⊎◌, List, [], ◌∷◌, ◌++◌, Some, None, All, Contains, length, slice_get}
use Rattle.pm_logic.specs.Term.{Term}
use Rattle.pm_store.specs.Entries.{Application}
use Rattle.pm_store.specs.declared.resolver.Place.{Place}
use Rattle.pm_store.specs.declared.resolver.Place.TheVariants.{Visit, Build}
use Rattle.pm_store.specs.Equations.{Equations, end_of}
use Rattle.pm_store.specs.Trees.{tree, size, IsPart}
use Rattle.pm_store.specs.Resolved.{Resolved, row_of, with_variables, HasRow, IsResolved}

-- an upper bound of the places that come of this one: a visited cell may have to be built too
abbrev pub place_work : Equations → Place → ℕ
place_work s (Visit c) = size (tree s c) + size (tree s c)
place_work s (Build c) = 1

abbrev pub work : Equations → List Place → ℕ
work s [] = 0
work s (p ∷ ps) = place_work s p + work s ps

-- visits to cells, the first of them next
abbrev pub visits : List ℕ → List Place
visits [] = []
visits (c ∷ cs) = visits cs ++ Visit c ∷ []

-- the variables once the places were visited
abbrev pub variables_after : Equations → List ℕ → List Place → List ℕ
variables_after s vs [] = vs
variables_after s vs (Visit c ∷ ps) = with_variables (variables_after s vs ps) (tree s c)
variables_after s vs (Build c ∷ ps) = variables_after s vs ps

-- the place gives this cell a row
abbrev pub cell_of : Place → ℕ
cell_of (Visit c) = c
cell_of (Build c) = c

-- the cell has a row, or gets one at one of these places
abbrev pub WillHaveRow : Resolved → List Place → ℕ → Type 0
WillHaveRow r ps c = (row_of r c ≢ None) ⊎ ((p : Place) × Contains ps p × (cell_of p ≡ c))

-- the place is of a cell, and the arguments of an application that is to be built come first
abbrev pub IsReadyAt : Equations → Resolved → Place → List Place → Type 0
IsReadyAt s r (Visit c) ps = c < length s.cells
IsReadyAt s r (Build c) ps = (c < length s.cells) × (symbol : ℕ) × (args : List ℕ)
    × (slice_get s.cells (end_of s.bindings c) ≡ Some (Application symbol args))
    × All (WillHaveRow r ps) args

abbrev pub AreReady : Equations → Resolved → List Place → Type 0
AreReady s r [] = Unit {0}
AreReady s r (p ∷ ps) = IsReadyAt s r p ps × AreReady s r ps

-- What a resolver keeps while it comes to a cell's term, from what it had first: what is pending
-- gives the cell its row, and the free variables their numbers in their order.
pub record Comes (s : Equations) (a : ℕ) (first r : Resolved) (table : List Term)
    (ps : List Place) : Type 0 where
  pub resolved : IsResolved s r table
  pub ready : AreReady s r ps
  pub row : WillHaveRow r ps a
  pub order : variables_after s r.free ps ≡ with_variables first.free (tree s a)

-- a place was dealt with, and others took its stead
abbrev pub Proceeds :
    Equations → Place → Resolved → List Term → List Place → Resolved → List Term → List Place
    → Type 0
Proceeds s p r table ps new grown left =
    ((a : ℕ) (first : Resolved) → Comes s a first r table (ps ++ p ∷ [])
    → Comes s a first new grown left)
    × (work s left < work s (ps ++ p ∷ []))

-- each row that was added is one of this cell
abbrev pub AddsRowsOf : Equations → ℕ → List Term → Resolved → List Term → Type 0
AddsRowsOf s cell table r grown = (row : ℕ) → length table ≤ row → row < length grown
    → HasRow s r.free grown cell row

-- each place that was added is one of a part of this cell's tree
abbrev pub AddsPlacesOf : Equations → ℕ → List Place → List Place → Type 0
AddsPlacesOf s cell ps left = (p : Place) → Contains left p → Contains ps p
    ⊎ IsPart (tree s (cell_of p)) (tree s cell)

-- the rows that were added, and what is pending, are of parts of a cell's tree
pub record ComesOfParts (s : Equations) (a : ℕ) (table : List Term) (r : Resolved)
    (grown : List Term) (ps : List Place) : Type 0 where
  pub rows : (row : ℕ) → length table ≤ row → row < length grown → (cell : ℕ)
      × HasRow s r.free grown cell row × IsPart (tree s cell) (tree s a)
  pub places : (p : Place) → Contains ps p → IsPart (tree s (cell_of p)) (tree s a)
