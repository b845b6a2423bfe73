-- How words and symbols are written.
use Rattle.std.specs.Prelude.{ℕ, ◌==◌, ◌||◌, ◌&&◌, ◌++◌, Bool, false, List, [], ◌∷◌, if◌then◌else◌}
use Rattle.std.specs.List.{list_all, flat_map}
use Rattle.std.specs.Char.{is_ascii_lowercase, is_ascii_alphanumeric}
use Rattle.pm_logic.specs.declared.symbols.Kind.{Kind}
use Rattle.pm_logic.specs.declared.symbols.Kind.TheVariants.{Equality}
use Rattle.pm_logic.specs.Problem.{Symbol}

-- a letter, a digit or _
abbrev pub is_word_byte : ℕ → Bool
is_word_byte byte = is_ascii_alphanumeric byte || (byte == 95)

-- a letter from a to z, then letters, digits and _
abbrev pub is_lower_word : List ℕ → Bool
is_lower_word [] = false
is_lower_word (first ∷ rest) = is_ascii_lowercase first && list_all is_word_byte rest

-- ' and \ have a \ before them
abbrev pub escaped : ℕ → List ℕ
escaped byte = if (byte == 39) || (byte == 92) then 92 ∷ byte ∷ [] else byte ∷ []

-- the text between ' and '
abbrev pub quoted : List ℕ → List ℕ
quoted text = 39 ∷ flat_map escaped text ++ 39 ∷ []

-- a lower word stays bare, and any other text is quoted
abbrev pub written_word : List ℕ → List ℕ
written_word text = if is_lower_word text then text else quoted text

-- a symbol of a kind: equality as =, and any other as its text
abbrev pub written_as : Kind → List ℕ → List ℕ
written_as Equality text = 61 ∷ []
written_as kind text = written_word text

abbrev pub written_symbol : Symbol → List ℕ
written_symbol symbol = written_as symbol.kind symbol.text
