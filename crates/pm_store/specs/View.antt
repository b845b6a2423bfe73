-- What a look at a cell shows.
use Rattle.std.specs.Prelude.{◌≡◌, ℕ, ◌<◌, Some, All, length, map, slice_get}
use Rattle.pm_logic.specs.Term.{Term, app, as_terms}
use Rattle.pm_store.specs.Entries.{Application}
use Rattle.pm_store.specs.declared.store.Cell.{Cell}
use Rattle.pm_store.specs.declared.store.Cell.TheVariants.{Free, App}
use Rattle.pm_store.specs.Equations.{Equations, IsFree}

-- the cell is a free variable, and shown by its number; or an application, and shown by its symbol
-- and arguments
abbrev pub Shows : Equations → ℕ → Cell → Type 0
Shows s c (Free v) = (v ≡ c) × IsFree s v
Shows s c (App symbol args) = (slice_get s.cells c ≡ Some (Application symbol args.now))
    × All (λ arg. arg < length s.cells) args.now

-- the tree of what is shown
abbrev pub shown_tree : (ℕ → Term) → Cell → Term
shown_tree tree (Free v) = tree v
shown_tree tree (App symbol args) = app symbol (as_terms (map tree args.now))
