-- Jobs and options, by what a parse found.
use Rattle.std.proofs.Common.{codes, ◌≡◌, ◌∙◌, ◌<◌, ◌≤◌, ◌^◌, ℕ, Bool, true, List, [], ◌∷◌, ◌||◌, ◌&&◌, map, length, refl, sym, ap, ap₂, arith, Option, Some, Result, Ok, Err, Bor, is_some}
use Rattle.std.specs.List.{list_all, list_any, slice_index_or}
use Rattle.std.specs.Prelude.{unwrap_or}
use Rattle.std.specs.Option.{option_map}
use Rattle.std.specs.Result.{OkIff}
use Rattle.std.specs.Char.{is_ascii_digit}
use Rattle.std.specs.Str.{all_ascii_digits}
use Rattle.std.specs.Str.Parse.{ParsesUnsigned, digits_value}
use Rattle.std.proofs.lemmas.Str.Parse.{IsNumeralModel, digits_value_short, numerals_by_value, parse_digits, tells_all_ascii_digits}
use Rattle.clap.proofs.WalkLemmas.{both}
use Rattle.clap.specs.Words.{first_value, found_of, matched_of, raw_values}
use Rattle.clap.specs.declared.parser.matches.ArgMatches.{ArgMatches}
use Rattle.pm_args.specs.Words.{Reading, Text, is_among, option_names}
use Rattle.pm_args.specs.Jobs.{gives_any, job_among, job_of_one, job_of_two}
use Rattle.pm_args.specs.Inside.Found.{HasRead}

-- a value is found for one of the options exactly where one is given
pub any_given : (m : ArgMatches) (r : Reading) (names : List (Bor Text)) → HasRead m r → list_all (is_among option_names) (map (λ n. n.now) names) ≡ true
    → list_any (λ n. is_some (first_value (found_of m) n.now)) names ≡ gives_any (map (λ n. n.now) names) r
any_given m r [] has known = refl
any_given m r (n ∷ names) has known =
    let parts = both _ _ known in
    ap₂ (λ (a b : Bool). a || b) (ap (λ (o : Option Text). is_some o) (has.values n.now parts.0)) (any_given m r names has parts.1)

-- thirteen digits fit
same_digits : (ds : Text) → list_all is_ascii_digit ds ≡ all_ascii_digits ds
same_digits [] = refl
same_digits (d ∷ ds) = ap (λ (b : Bool). is_ascii_digit d && b) (same_digits ds)

pub thirteen_parse : {E : Type 0} (bs : Text) (r : Result ℕ E) → ParsesUnsigned 64 10 bs r → 0 < length bs → length bs ≤ 13 → list_all is_ascii_digit bs ≡ true
    → r ≡ Ok (digits_value 10 bs)
thirteen_parse {E = E} bs r parses some few digits = by r (parse_digits own 64 bs r parses told)
  where
    told : all_ascii_digits bs ≡ true
    told = sym (same_digits bs) ∙ digits

    own : IsNumeralModel (λ ds. all_ascii_digits ds ≡ true) (digits_value 10)
    own = numerals_by_value (λ ds. all_ascii_digits ds ≡ true) tells_all_ascii_digits

    small : digits_value 10 bs < 10 ^ 13
    small = digits_value_short own bs 13 told few

    by : (r : Result ℕ E) → OkIff r ((0 < length bs) × (digits_value 10 bs < 2 ^ 64)) (digits_value 10 bs) → r ≡ Ok (digits_value 10 bs)
    by (Ok x) h = ap Ok h.1
    by (Err e) h = let fits : digits_value 10 bs < 10 ^ 13 = small in absurd (h (some, omega arith))

-- the plain words that a parse found
pub plain_words : (m : ArgMatches) (r : Reading) (found : Option (Bor (List (Bor Text)))) (words : Bor (List (Bor Text))) → HasRead m r → found ≡ Some words
    → option_map (λ s. map (λ v. v.now) s.now) found ≡ option_map raw_values (matched_of (found_of m) (codes "words")) → map (λ v. v.now) words.now ≡ r.plain
plain_words m r found words has is gives =
    ap (λ (o : Option (Bor (List (Bor Text)))). unwrap_or (option_map (λ s. map (λ v. v.now) s.now) o) []) (sym is)
    ∙ ap (λ (o : Option (List Text)). unwrap_or o []) gives ∙ has.plain

-- the job of two plain words, and of three
pub two_words : (r : Reading) (words : List (Bor Text)) (d : Bor Text) → 2 ≤ length words → length words < 3
    → job_among r (map (λ v. v.now) words) ≡ job_of_one r (slice_index_or words 0 d).now (slice_index_or words 1 d).now
two_words r [] d least most = absurd (omega arith)
two_words r (a ∷ []) d least most = absurd (omega arith)
two_words r (a ∷ b ∷ []) d least most = refl
two_words r (a ∷ b ∷ c ∷ words) d least most = absurd (omega arith)

pub three_words : (r : Reading) (words : List (Bor Text)) (d : Bor Text) → 3 ≤ length words → length words < 4
    → job_among r (map (λ v. v.now) words) ≡ job_of_two r (slice_index_or words 0 d).now (slice_index_or words 1 d).now (slice_index_or words 2 d).now
three_words r [] d least most = absurd (omega arith)
three_words r (a ∷ []) d least most = absurd (omega arith)
three_words r (a ∷ b ∷ []) d least most = absurd (omega arith)
three_words r (a ∷ b ∷ c ∷ []) d least most = refl
three_words r (a ∷ b ∷ c ∷ e ∷ words) d least most = absurd (omega arith)
