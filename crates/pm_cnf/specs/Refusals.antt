-- Why a file isn't read.
use Rattle.std.specs.Prelude.{◌≡◌, ℕ, ◌-◌, List, take, length}
use Rattle.pm_cnf.specs.declared.error.CnfError.{CnfError}
use Rattle.pm_cnf.specs.declared.error.CnfError.TheVariants.{At, Memory}
use Rattle.pm_scan.specs.declared.offence.Place.{Place}
use Rattle.pm_cnf.specs.declared.limits.Limits.{Limits}
use Rattle.pm_scan.specs.Lexemes.{line_of, column_of}
use Rattle.pm_cnf.specs.Offences.{IsFirstOffence}

-- the bytes before the rest
abbrev pub before : List ℕ → List ℕ → List ℕ
before bytes rest = take (length bytes - length rest) bytes

-- the place at which the rest begins
pub record BeginsAt (bytes rest : List ℕ) (place : Place) : Type 0 where
  pub line : place.line ≡ line_of (before bytes rest)
  pub column : place.column ≡ column_of (before bytes rest)

-- The first offence of the bytes and its place, unless memory ran out.
abbrev pub Refuses : Limits → List ℕ → CnfError → Type 0
Refuses limits bytes (At place kind) =
    (rest : List ℕ) × IsFirstOffence limits bytes rest kind × BeginsAt bytes rest place
Refuses limits bytes Memory = Unit {0}
