-- The texts of a clause's variables in the set of them.
use Rattle.std.proofs.Common.{◌≡◌, ℕ, ◌+◌, ◌≤◌, Bool, true, false, List, [], ◌∷◌, ◌++◌, length, Some, refl, sym, ap, ap₂, ◌∙◌, arith}
use Rattle.std.specs.Prelude.{if◌then◌else◌, ◌||◌, slice_get}
use Rattle.std.specs.Borrow.{Bor}
use Rattle.std.specs.List.{list_any}
use Rattle.std.specs.Option.{option_map}
use Rattle.std.specs.Str.{bytes_eq}
use Rattle.std.proofs.lemmas.List.{length_push, map_push}
use Rattle.std.proofs.lemmas.Option.{slice_get-map}
use Rattle.std.proofs.lemmas.Slice.Eq.{bytes_eq-Decides}
use Rattle.pm_logic.proofs.Gathering.{Extends, Extends-refl, Extends-trans}
use Rattle.pm_cnf.specs.Offences.{with_text}
use Rattle.pm_cnf.specs.Meaning.{with_texts}
use Rattle.pm_cnf.specs.Inside.Parts.{texts_of}

pub any_text : (same : Bor (List ℕ) → Bor (List ℕ) → Bool) → ((x y : Bor (List ℕ)) → same x y ≡ bytes_eq x.now y.now) → (text : Bor (List ℕ)) (keys : List (Bor (List ℕ)))
    → list_any (same text) keys ≡ list_any (bytes_eq text.now) (texts_of keys)
any_text same is text [] = refl
any_text same is text (key ∷ keys) = ap₂ (λ a b. a || b) (is text key) (any_text same is text keys)

-- the set's keys are the texts in turn
pub texts-insert : (same : Bor (List ℕ) → Bor (List ℕ) → Bool) → ((x y : Bor (List ℕ)) → same x y ≡ bytes_eq x.now y.now) → (text : Bor (List ℕ)) (keys : List (Bor (List ℕ)))
    → texts_of (if list_any (same text) keys then keys else keys ++ text ∷ []) ≡ with_text (texts_of keys) text.now
texts-insert same is text keys = by (list_any (same text) keys) ∙ ap (λ b. if b then texts_of keys else texts_of keys ++ text.now ∷ []) (any_text same is text keys)
  where
    by : (b : Bool) → texts_of (if b then keys else keys ++ text ∷ []) ≡ (if b then texts_of keys else texts_of keys ++ text.now ∷ [])
    by true = refl
    by false = map_push (λ (t : Bor (List ℕ)). t.now) keys text

pub text_stands : (keys : List (Bor (List ℕ))) (n : ℕ) (key : Bor (List ℕ)) (text : List ℕ) → slice_get keys n ≡ Some key → bytes_eq text key.now ≡ true → slice_get (texts_of keys) n ≡ Some text
text_stands keys n key text stands same =
    slice_get-map (λ (t : Bor (List ℕ)). t.now) keys n ∙ ap (option_map (λ (t : Bor (List ℕ)). t.now)) stands ∙ ap Some (sym ((bytes_eq-Decides text key.now).0 same))

with_text-extends : (texts : List (List ℕ)) (text : List ℕ) → Extends texts (with_text texts text)
with_text-extends texts text = by (list_any (bytes_eq text) texts)
  where
    by : (b : Bool) → Extends texts (if b then texts else texts ++ text ∷ [])
    by true = Extends-refl texts
    by false = (text ∷ [], refl)

pub with_texts-extends : (texts others : List (List ℕ)) → Extends texts (with_texts texts others)
with_texts-extends texts [] = Extends-refl texts
with_texts-extends texts (text ∷ others) = Extends-trans texts (with_text texts text) (with_texts (with_text texts text) others) (with_text-extends texts text) (with_texts-extends (with_text texts text) others)

with_text-length : (texts : List (List ℕ)) (text : List ℕ) → length (with_text texts text) ≤ length texts + 1
with_text-length texts text = by (list_any (bytes_eq text) texts)
  where
    by : (b : Bool) → length (if b then texts else texts ++ text ∷ []) ≤ length texts + 1
    by true = omega arith
    by false = omega (arith, length_push texts text)

pub with_texts-length : (texts others : List (List ℕ)) → length (with_texts texts others) ≤ length texts + length others
with_texts-length texts [] = omega arith
with_texts-length texts (text ∷ others) = omega (arith, with_texts-length (with_text texts text) others, with_text-length texts text)

pub with_texts-append : (texts others more : List (List ℕ)) → with_texts texts (others ++ more) ≡ with_texts (with_texts texts others) more
with_texts-append texts [] more = refl
with_texts-append texts (text ∷ others) more = with_texts-append (with_text texts text) others more
