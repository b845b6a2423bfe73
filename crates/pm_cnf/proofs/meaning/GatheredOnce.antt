-- What lists are like whose elements were gathered, each once.
use Rattle.std.proofs.Common.{arith, ◌≡◌, ℕ, Bool, true, false, List, [], ◌∷◌, ◌++◌, refl, sym, ◌∙◌}
use Rattle.std.specs.Prelude.{Some, Contains, slice_get, if◌then◌else◌}
use Rattle.std.specs.List.{list_any}
use Rattle.std.specs.Str.{bytes_eq}
use Rattle.std.specs.Cmp.{decided}
use Rattle.std.proofs.lemmas.Map.Views.{list_any-from_Contains}
use Rattle.std.proofs.lemmas.Option.{slice_get_within}
use Rattle.std.proofs.lemmas.Slice.Eq.{bytes_eq-Decides}
use Rattle.pm_logic.specs.Lists.{AreDistinct, Gathers}
use Rattle.pm_logic.proofs.Gathering.{Gathers-distinct}
use Rattle.pm_logic.proofs.ListLemmas.{AreDistinct-push}
use Rattle.pm_cnf.specs.Meaning.{with_texts}
use Rattle.pm_cnf.specs.Offences.{with_text}

-- no two places hold the same
abbrev pub HoldsOnce : {A : Type 0} → List A → Type 0
HoldsOnce {A} xs = (i j : ℕ) (x : A) → slice_get xs i ≡ Some x → slice_get xs j ≡ Some x → i ≡ j

distinct_once : {A : Type 0} (xs : List A) → AreDistinct xs → HoldsOnce xs
distinct_once xs distinct i j x at there = distinct i j (slice_get_within xs i x at) (slice_get_within xs j x there) (at ∙ sym there)

distinct_nil : {A : Type 0} → AreDistinct {A = A} []
distinct_nil i j below within same = absurd (omega (arith, below))

-- What is gathered stands once.
pub gathers_once : {A : Type 0} (xs new : List A) → Gathers [] xs new → HoldsOnce new
gathers_once xs new h = distinct_once new (Gathers-distinct xs [] new distinct_nil h)

-- a text that a test doesn't find isn't there
text_new : (texts : List (List ℕ)) (text : List ℕ) → list_any (bytes_eq text) texts ≡ false → ¬ Contains texts text
text_new texts text new there = let found : list_any (bytes_eq text) texts ≡ true = list_any-from_Contains (decided bytes_eq bytes_eq-Decides) text texts there in cc

with_text_distinct : (texts : List (List ℕ)) (text : List ℕ) → AreDistinct texts → AreDistinct (with_text texts text)
with_text_distinct texts text distinct = by (list_any (bytes_eq text) texts) refl
  where
    by : (found : Bool) → list_any (bytes_eq text) texts ≡ found → AreDistinct (if found then texts else texts ++ text ∷ [])
    by true is = distinct
    by false is = AreDistinct-push texts text distinct (text_new texts text is)

with_texts_distinct : (texts others : List (List ℕ)) → AreDistinct texts → AreDistinct (with_texts texts others)
with_texts_distinct texts [] distinct = distinct
with_texts_distinct texts (text ∷ others) distinct = with_texts_distinct (with_text texts text) others (with_text_distinct texts text distinct)

pub with_texts_once : (others : List (List ℕ)) → HoldsOnce (with_texts [] others)
with_texts_once others = distinct_once (with_texts [] others) (with_texts_distinct [] others distinct_nil)
