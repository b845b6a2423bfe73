-- The texts that a run prints, as their lines.
use Rattle.std.specs.Prelude.{ℕ, ◌+◌, List, [], ◌∷◌, ◌++◌, length, codes, decimal}
use Rattle.std.specs.List.{flat_map}
use Rattle.pm_scan.specs.declared.offence.CnfKind.{CnfKind}
use Rattle.pm_scan.specs.Words.{kind_word}
pub use Rattle.pm_certread.specs.Lines.{Line, text_of, level_line, level_lines_from, level_lines}

-- each level up to the depth option is exhausted
abbrev pub gave_up_lines : List ℕ → List Line
gave_up_lines works = codes "% SZS status GaveUp" ∷ level_lines works

-- level d budget
abbrev pub budget_line : ℕ → Line
budget_line level = codes "level " ++ (decimal level ++ codes " budget")

-- the level after the exhausted ones needs more attempts than the budget
abbrev pub resource_out_lines : List ℕ → List Line
resource_out_lines works =
    codes "% SZS status ResourceOut" ∷ (level_lines works ++ budget_line (length works) ∷ [])

-- an offence of this kind stands at this place of the clause file
abbrev pub input_error_lines : ℕ → ℕ → CnfKind → List Line
input_error_lines line column kind =
    codes "% SZS status InputError"
    ∷ (codes "line " ++ (decimal line ++ (codes " column "
    ++ (decimal column ++ (codes " " ++ kind_word kind))))) ∷ []

-- the file of this place in the words is over its limit
abbrev pub too_long_lines : ℕ → List Line
too_long_lines file =
    codes "% SZS status InputError"
    ∷ (codes "file " ++ (decimal file ++ codes " TooLong")) ∷ []

-- `choices`, and each choice after a blank
abbrev pub choices_line : List ℕ → Line
choices_line choices =
    codes "choices" ++ flat_map (λ choice. codes " " ++ decimal choice) choices

-- the certificate is one of a tableau of this depth that the choices lead to
abbrev pub accepted_lines : ℕ → List ℕ → List Line
accepted_lines depth choices =
    (codes "certificate accepted depth " ++ decimal depth) ∷ choices_line choices ∷ []

-- the same of a tableau of so many clause instances
abbrev pub accepted_inferences_lines : ℕ → List ℕ → List Line
accepted_inferences_lines size choices =
    (codes "certificate accepted inferences " ++ decimal size) ∷ choices_line choices ∷ []

-- the certificate is refused at this line, for a cause of this name
abbrev pub refused_lines : ℕ → List ℕ → List Line
refused_lines line kind =
    (codes "certificate refused line " ++ (decimal line ++ (codes " " ++ kind))) ∷ []

abbrev pub bad_words_lines : List Line
bad_words_lines = codes "parmel: bad words" ∷ []
