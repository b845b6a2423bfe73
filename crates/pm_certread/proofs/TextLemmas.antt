-- The text that a written word stands for.
use Rattle.std.proofs.Common.{◌≡◌, ◌∙◌, ℕ, ◌==◌, ◌&&◌, ◌||◌, not, Bool, true, false, cond, List, [], ◌∷◌, ◌++◌, refl, sym, ap, arith, true≢false}
use Rattle.std.specs.List.{list_all, flat_map}
use Rattle.std.proofs.lemmas.List.{append-nil}
use Rattle.std.specs.Str.{IsUtf8}
use Rattle.std.proofs.lemmas.Str.{IsUtf8-from_ascii}
use Rattle.std.proofs.lemmas.Str.Ascii.{IsAscii-from_all}
use Rattle.pm_logic.specs.Problem.{IsPrintable}
use Rattle.pm_logic.specs.Word.{is_word_byte, is_lower_word, escaped, quoted, written_word}
use Rattle.pm_certread.specs.Inside.Words.{unescaped}
use Rattle.pm_certread.proofs.WordLemmas.{is_plain, word_plain, all_words, all_impl}

plain_same : (text : List ℕ) → list_all is_plain text ≡ true → unescaped false text ≡ text
plain_same [] h = refl
plain_same (b ∷ text) h = go (b == 39) (b == 92) (plain_same text) h
  where
    go : (p q : Bool) → (list_all is_plain text ≡ true → unescaped false text ≡ text) → ((not p && not q) && list_all is_plain text) ≡ true
        → cond p (unescaped false text) (cond q (unescaped true text) (b ∷ unescaped false text)) ≡ b ∷ text
    go true q later e = absurd (true≢false (sym e))
    go false true later e = absurd (true≢false (sym e))
    go false false later e = ap (λ (t : List ℕ). b ∷ t) (later e)

inside_same : (text rest : List ℕ) → unescaped false (flat_map escaped text ++ rest) ≡ text ++ unescaped false rest
inside_same [] rest = refl
inside_same (b ∷ text) rest = go (b == 39) (b == 92) refl refl (inside_same text rest)
  where
    go : (p q : Bool) → (b == 39) ≡ p → (b == 92) ≡ q
        → unescaped false (flat_map escaped text ++ rest) ≡ text ++ unescaped false rest
        → unescaped false ((cond (p || q) (92 ∷ b ∷ []) (b ∷ []) ++ flat_map escaped text) ++ rest) ≡ b ∷ (text ++ unescaped false rest)
    go true q is is_too later = ap (λ (t : List ℕ). b ∷ t) later
    go false true is is_too later = ap (λ (t : List ℕ). b ∷ t) later
    go false false is is_too later = rw (is, is_too) (ap (λ (t : List ℕ). b ∷ t) later)

pub written_same : (text : List ℕ) → unescaped false (written_word text) ≡ text
written_same text = go (is_lower_word text) refl
  where
    go : (p : Bool) → is_lower_word text ≡ p → unescaped false (cond p text (quoted text)) ≡ text
    go true is = plain_same text (all_impl is_word_byte is_plain text word_plain (all_words text is))
    go false is = inside_same text (39 ∷ []) ∙ append-nil text

pub word_injective : (text other : List ℕ) → written_word text ≡ written_word other → text ≡ other
word_injective text other e = sym (written_same text) ∙ ap (unescaped false) e ∙ written_same other

-- the only text that a word can be written for
pub text_of_word : (word plain text : List ℕ) → plain ≡ unescaped false word → word ≡ written_word text → plain ≡ text
text_of_word word plain text is e = is ∙ ap (unescaped false) e ∙ written_same text

pub printable_utf8 : (text : List ℕ) → IsPrintable text → IsUtf8 text
printable_utf8 text h = IsUtf8-from_ascii text (IsAscii-from_all text (λ k d lt. let fits = h.1 k d lt in omega arith))
