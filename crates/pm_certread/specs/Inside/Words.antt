-- The words of a line: it is cut at each blank outside quotes.
use Rattle.std.specs.Prelude.{ℕ, suc, ◌==◌, Bool, true, false, List, [], ◌∷◌, if◌then◌else◌}
use Rattle.std.specs.List.{onto_first}
use Rattle.pm_certread.specs.declared.words.Place.{Place}
use Rattle.pm_certread.specs.declared.words.Place.TheVariants.{Outside, Quoted, Escaped}

-- where the byte after this one stands
abbrev pub next_place : Place → ℕ → Place
next_place Outside byte = if byte == 39 then Quoted else Outside
next_place Quoted byte =
    if byte == 39 then Outside else if byte == 92 then Escaped else Quoted
next_place Escaped byte = Quoted

-- whether the byte parts two words
abbrev pub parts : Place → ℕ → Bool
parts Outside byte = byte == 32
parts Quoted byte = false
parts Escaped byte = false

abbrev pub words_from : Place → List ℕ → List (List ℕ)
words_from place [] = [] ∷ []
words_from place (byte ∷ bytes) =
    if parts place byte
    then [] ∷ words_from Outside bytes
    else onto_first byte (words_from (next_place place byte) bytes)

abbrev pub words_of : List ℕ → List (List ℕ)
words_of line = words_from Outside line

-- how many bytes come before the first blank outside quotes
abbrev pub first_length : Place → List ℕ → ℕ
first_length place [] = 0
first_length place (byte ∷ bytes) =
    if parts place byte then 0 else suc (first_length (next_place place byte) bytes)

-- Quotes are left out, and a `\` gives way to the byte behind it; whether one stands right before.
abbrev pub unescaped : Bool → List ℕ → List ℕ
unescaped behind [] = []
unescaped true (byte ∷ bytes) = byte ∷ unescaped false bytes
unescaped false (byte ∷ bytes) =
    if byte == 39 then unescaped false bytes
    else if byte == 92 then unescaped true bytes
    else byte ∷ unescaped false bytes
