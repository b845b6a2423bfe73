-- Texts and names.
use Rattle.std.proofs.Common.{◌≡◌, Bool, true, false, refl, sym, subst, true≢false, codes}
use Rattle.std.specs.Str.{bytes_eq}
use Rattle.std.proofs.lemmas.Slice.Eq.{bytes_eq-Decides}
use Rattle.pm_args.specs.Words.{Text, is_among, option_names}

pub bytes_same : (t : Text) → bytes_eq t t ≡ true
bytes_same t = (bytes_eq-Decides t t).1 refl

pub same_text : (a b : Text) → bytes_eq a b ≡ true → a ≡ b
same_text a b = (bytes_eq-Decides a b).0

module _ {Z : Type 0} where
  pub bool_cases : (b : Bool) → (b ≡ true → Z) → (b ≡ false → Z) → Z
  bool_cases true at_true at_false = at_true refl
  bool_cases false at_true at_false = at_false refl

-- a name is never the id of the plain words
pub never_words : (name : Text) → is_among option_names name ≡ true → bytes_eq (codes "words") name ≡ false
never_words name known = bool_cases (bytes_eq (codes "words") name)
    (λ e. let same : name ≡ codes "words" = sym (same_text (codes "words") name e) in
    let back : is_among option_names (codes "words") ≡ true = subst (λ (t : Text). is_among option_names t ≡ true) same known in
    absurd (true≢false (sym back)))
    (λ e. e)
