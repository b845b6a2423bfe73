-- Upper words that are kept as the keys of a set.
use Rattle.std.proofs.Common.{◌≡◌, ℕ, ◌&&◌, ◌<◌, ◌≤◌, ◌∙◌, Bool, true, false, List, length, Bor, not, nat_le, refl, sym, ap₂}
use Rattle.std.specs.List.{list_any}
use Rattle.std.specs.Str.{bytes_eq}
use Rattle.std.proofs.lemmas.Bool.{and_from, and_left, and_right, not_from_true, not_from_false, le-leb, lt-leb}
use Rattle.std.proofs.lemmas.List.{length-map}
use Rattle.pm_cnf.specs.declared.limits.Limits.{Limits}
use Rattle.pm_scan.specs.Lexemes.{upper}
use Rattle.pm_cnf.specs.Inside.Machine.{has_too_many_variables}
use Rattle.pm_cnf.specs.Inside.Parts.{texts_of}
use Rattle.pm_cnf.proofs.parts.TextLemmas.{any_text}

-- whether the word is one of them
abbrev pub is_key : Bor (List ℕ) → List (Bor (List ℕ)) → Bool
is_key text keys = list_any (λ key. bytes_eq text.now key.now) keys

-- whether they are too many with this word, by the keys
pub too_many_by_keys : (limits : Limits) (text : Bor (List ℕ)) (keys : List (Bor (List ℕ)))
    → has_too_many_variables limits (texts_of keys) (upper text.now) ≡ (not (is_key text keys) && nat_le limits.variables (length keys))
too_many_by_keys limits text keys =
    ap₂ (λ b n. not b && nat_le limits.variables n)
    (sym (any_text (λ x y. bytes_eq x.now y.now) (λ x y. refl) text keys)) (length-map keys (λ key. key.now))

-- the word is a further one, and there may be no more
pub is_too_many : (limits : Limits) (text : Bor (List ℕ)) (keys : List (Bor (List ℕ))) → is_key text keys ≡ false → limits.variables ≤ length keys
    → has_too_many_variables limits (texts_of keys) (upper text.now) ≡ true
is_too_many limits text keys new full =
    too_many_by_keys limits text keys ∙ and_from (not (is_key text keys)) (nat_le limits.variables (length keys)) (not_from_false (is_key text keys) new) (le-leb limits.variables (length keys) full)

-- the word is one of them
pub is_known : (limits : Limits) (text : Bor (List ℕ)) (keys : List (Bor (List ℕ))) → is_key text keys ≡ true
    → has_too_many_variables limits (texts_of keys) (upper text.now) ≡ false
is_known limits text keys known =
    too_many_by_keys limits text keys ∙ and_left (not (is_key text keys)) (nat_le limits.variables (length keys)) (not_from_true (is_key text keys) known)

-- there may be one more
pub has_room : (limits : Limits) (text : Bor (List ℕ)) (keys : List (Bor (List ℕ))) → length keys < limits.variables
    → has_too_many_variables limits (texts_of keys) (upper text.now) ≡ false
has_room limits text keys room =
    too_many_by_keys limits text keys ∙ and_right (not (is_key text keys)) (nat_le limits.variables (length keys)) (lt-leb limits.variables (length keys) room)
