-- How words are read: the options with their values, and the plain words.
use Rattle.std.specs.Prelude.{ℕ, ◌==◌, Bool, false, List, [], ◌∷◌, Option, None, Some, codes}
use Rattle.std.specs.Prelude.{if◌then◌else◌, find}
use Rattle.std.specs.List.{after_first, before_first, list_any}
use Rattle.std.specs.Option.{option_map}
use Rattle.std.specs.Str.{bytes_eq}

abbrev pub Text : Type 0
Text = List ℕ

abbrev pub option_names : List Text
option_names =
    codes "depth" ∷ codes "budget" ∷ codes "workers" ∷ codes "class" ∷ codes "start"
    ∷ codes "bound" ∷ []

-- whether the name is among the names
abbrev pub is_among : List Text → Text → Bool
is_among names name = list_any (λ n. bytes_eq n name) names

-- What a word is: an option with its value, an option that takes the next word as its value, a bad
-- word, or a plain word.
pub data Word : Type 0 where
  given : Text → Text → Word
  takes_next : Text → Word
  bad : Word
  plain : Word

-- a hyphen is 45, and `=` is 61
abbrev pub begins_with_hyphen : Text → Bool
begins_with_hyphen [] = false
begins_with_hyphen (byte ∷ bytes) = byte == 45

abbrev pub is_equals_sign : ℕ → Bool
is_equals_sign byte = byte == 61

-- an option, with the value after its `=` if there is one
abbrev pub option_or_bad : Text → Text → Word
option_or_bad name rest =
    if is_among option_names name then (if list_any is_equals_sign rest
    then given name (after_first is_equals_sign rest) else takes_next name) else bad

-- what a word is by what stands after its two hyphens
abbrev pub after_hyphens : Text → Word
after_hyphens rest = option_or_bad (before_first is_equals_sign rest) rest

-- what a word is by what stands after its hyphen
abbrev pub after_hyphen : Text → Word
after_hyphen [] = bad
after_hyphen (byte ∷ rest) = if byte == 45 then after_hyphens rest else bad

abbrev pub word_of : Text → Word
word_of [] = plain
word_of (byte ∷ rest) = if byte == 45 then after_hyphen rest else plain

-- the options that words give, with their values, and the plain words among them, each in order
pub record Reading : Type 0 where
  pub options : List (Text × Text)
  pub plain : List Text

abbrev pub with_option : Text → Text → Reading → Reading
with_option name value r = record r { options = (name, value) ∷ r.options }

abbrev pub with_plain : Text → Reading → Reading
with_plain word r = record r { plain = word ∷ r.plain }

-- In the next three, `names` are those of the options so far, each of which may be given once, and
-- `rest` reads the words that follow: after an option that takes the first of them, or after
-- another word.
abbrev pub read_option : Text → Text → List Text → (Option Text → List Text → Option Reading)
    → Option Reading
read_option name value names rest =
    if is_among names name then None
    else option_map (with_option name value) (rest None (name ∷ names))

abbrev pub read_value : Text → Text → List Text → (Option Text → List Text → Option Reading)
    → Option Reading
read_value name value names rest =
    if begins_with_hyphen value then None else read_option name value names rest

abbrev pub read_word : Word → Text → List Text → (Option Text → List Text → Option Reading)
    → Option Reading
read_word (given name value) word names rest = read_option name value names rest
read_word (takes_next name) word names rest = rest (Some name) names
read_word bad word names rest = None
read_word plain word names rest = option_map (with_plain word) (rest None names)

-- the words from left to right; `waiting` is the option that takes the first of them, if one does
unfoldable pub reading_from : List Text → Option Text → List Text → Option Reading
reading_from [] None names = Some (record { options = []; plain = [] })
reading_from [] (Some name) names = None
reading_from (word ∷ words) None names = read_word (word_of word) word names (reading_from words)
reading_from (word ∷ words) (Some name) names = read_value name word names (reading_from words)

-- what all words say, where none is bad, each option has its value, and none is given twice
abbrev pub reading_of : List Text → Option Reading
reading_of words = reading_from words None []

-- the value of the option of this name
abbrev pub value_of : Text → Reading → Option Text
value_of name r = option_map (λ o. o.1) (find (λ o. bytes_eq o.0 name) r.options)
