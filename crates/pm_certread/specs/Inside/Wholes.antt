-- Whole words: no blank outside quotes, and quotes that are closed.
use Rattle.std.specs.Prelude.{◌≡◌, ℕ, false, List, [], ◌∷◌}
use Rattle.pm_certread.specs.declared.words.Place.{Place}
use Rattle.pm_certread.specs.declared.words.Place.TheVariants.{Outside}
use Rattle.pm_certread.specs.Inside.Words.{next_place, parts}

abbrev pub IsWholeFrom : Place → List ℕ → Type 0
IsWholeFrom place [] = place ≡ Outside
IsWholeFrom place (byte ∷ bytes) =
    (parts place byte ≡ false) × IsWholeFrom (next_place place byte) bytes

abbrev pub IsWhole : List ℕ → Type 0
IsWhole word = IsWholeFrom Outside word

abbrev pub AreWhole : List (List ℕ) → Type 0
AreWhole [] = Unit {0}
AreWhole (word ∷ words) = IsWhole word × AreWhole words
