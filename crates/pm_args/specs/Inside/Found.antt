-- What a parse found, against what the words say.
use Rattle.std.specs.Prelude.{◌≡◌, ◌==◌, Bool, true, false, List, [], ◌∷◌, Some, codes}
use Rattle.std.specs.Prelude.{if◌then◌else◌, not, unwrap_or}
use Rattle.std.specs.Option.{option_map}
use Rattle.clap.specs.Words.{found_of, first_value, matched_of, raw_values}
use Rattle.clap.specs.declared.parser.matches.ArgMatches.{ArgMatches}
use Rattle.pm_args.specs.Words.{Reading, Text, is_among, option_names, reading_of, value_of}

-- what was found for the plain words
abbrev pub plain_found : ArgMatches → List Text
plain_found m = unwrap_or (option_map raw_values (matched_of (found_of m) (codes "words"))) []

-- The matches have what the words were read as.
pub record HasRead (m : ArgMatches) (r : Reading) : Type 0 where
  pub values : (name : Text) → is_among option_names name ≡ true
      → first_value (found_of m) name ≡ value_of name r
  pub plain : plain_found m ≡ r.plain

abbrev pub IsReadFrom : List Text → ArgMatches → Type 0
IsReadFrom words m = (r : Reading) × (reading_of words ≡ Some r) × HasRead m r

abbrev pub is_stray_after : Text → Bool
is_stray_after [] = true
is_stray_after (byte ∷ []) = true
is_stray_after (byte ∷ next ∷ rest) = not (byte == 45)

-- the word begins with a hyphen, and not with two and something behind them
abbrev pub is_stray : Text → Bool
is_stray [] = false
is_stray (byte ∷ rest) = if byte == 45 then is_stray_after rest else false
