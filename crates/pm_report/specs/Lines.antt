-- The lines of a text.
use Rattle.std.specs.Prelude.{◌≡◌, ℕ, ◌==◌, ◌^◌, ◌<◌, ◌↔◌, List, [], ◌∷◌, All, Contains, Some}
use Rattle.std.specs.Prelude.{if◌then◌else◌, length, slice_get}
use Rattle.pm_report.specs.Text.{Line, gave_up_lines, level_line, resource_out_lines}
use Rattle.pm_report.specs.Text.{text_of}

-- the byte before the first line's others
abbrev pub onto_first_line : ℕ → List Line → List Line
onto_first_line byte [] = (byte ∷ []) ∷ []
onto_first_line byte (line ∷ lines) = (byte ∷ line) ∷ lines

-- A text cut at each LF. Bytes after the last LF are a line too.
abbrev pub lines_of : List ℕ → List Line
lines_of [] = []
lines_of (byte ∷ bytes) =
    if byte == 10 then [] ∷ lines_of bytes else onto_first_line byte (lines_of bytes)

-- the numbers of attempts are numbers of 64 bits, and so is their number
pub record AreWorks (works : List ℕ) : Type 0 where
  pub few : length works < 2 ^ 64
  pub small : All (λ work. work < 2 ^ 64) works

-- two level lines are equal only where their levels and their numbers of attempts are
abbrev pub LevelLinesDiffer : Type 0
LevelLinesDiffer =
    (level other work more : ℕ) → level < 2 ^ 64 → other < 2 ^ 64 → work < 2 ^ 64 → more < 2 ^ 64
    → level_line level work ≡ level_line other more → (level ≡ other) × (work ≡ more)

-- A level line is among the lines of a text exactly where the level is exhausted, with this number
-- of attempts.
abbrev pub SaysWorks : List ℕ → List Line → Type 0
SaysWorks works lines =
    (level work : ℕ) → level < 2 ^ 64 → work < 2 ^ 64
    → Contains (lines_of (text_of lines)) (level_line level work)
    ↔ (slice_get works level ≡ Some work)

-- the texts of runs without a proof say the exhausted levels, and no others
abbrev pub TextsSayWorks : Type 0
TextsSayWorks = (works : List ℕ) → AreWorks works
    → SaysWorks works (gave_up_lines works) × SaysWorks works (resource_out_lines works)
