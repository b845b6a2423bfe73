-- Two lists of cells that are being unified.
use Rattle.std.specs.Prelude.{ℕ, Bool, true, false, List}
use Rattle.pm_store.specs.Equations.{Equations}
use Rattle.pm_run.specs.Meaning.{Unites}
use Rattle.pm_run.specs.Failure.{CannotUnite}

-- all pairs were unified, or no solution makes them equal
abbrev pub United : Equations → List ℕ → List ℕ → Equations → Bool → Type 0
United old left right new true = Unites old left right new
United old left right new false = CannotUnite old left right
