-- The places of what passes a test, and lists in which no two places hold the same.
use Rattle.std.proofs.Common.{◌≡◌, ℕ, zero, suc, ◌+◌, ◌<◌, ◌⊎◌, inl, inr, Bool, true, false, cond, List, [], ◌∷◌, ◌++◌, length, get_or, Some, refl, sym, ◌∙◌, ap, subst, arith, slice_get, add-zero}
use Rattle.std.proofs.lemmas.Bool.{cases_lt}
use Rattle.std.proofs.lemmas.List.{length_push}
use Rattle.std.proofs.lemmas.Option.{slice_get_within, get_or_from_slice_get, slice_get-get_or}
use Rattle.std.specs.Prelude.{Contains}
use Rattle.pm_logic.specs.Lists.{AreDistinct, places}

-- the item at n passes the test
pub record IsPlace {A : Type 0} (test : A → Bool) (xs : List A) (n : ℕ) : Type 0 where
  pub item : A
  pub stands : slice_get xs n ≡ Some item
  pub passes : test item ≡ true

add_one_more : (m n : ℕ) → m + 1 + n ≡ m + suc n
add_one_more m n = omega arith

-- each place is of an item that passes
pub places-sound : {A : Type 0} (test : A → Bool) (from : ℕ) (xs : List A) (j : ℕ) → j < length (places test from xs)
    → (n : ℕ) × (get_or (places test from xs) j 0 ≡ from + n) × IsPlace test xs n
places-sound test from [] j lt = absurd (omega arith)
places-sound test from (x ∷ xs) j lt = by (test x) refl (places-sound test (from + 1) xs) j lt
  where
    by : (b : Bool) → test x ≡ b
        → ((j : ℕ) → j < length (places test (from + 1) xs)
        → (n : ℕ) × (get_or (places test (from + 1) xs) j 0 ≡ from + 1 + n) × IsPlace test xs n)
        → (j : ℕ) → j < length (cond b (from ∷ places test (from + 1) xs) (places test (from + 1) xs))
        → (n : ℕ) × (get_or (cond b (from ∷ places test (from + 1) xs) (places test (from + 1) xs)) j 0 ≡ from + n) × IsPlace test (x ∷ xs) n
    by true is later zero lt = (zero, sym (add-zero from), record { item = x; stands = refl; passes = is })
    by true is later (suc j) lt =
        let h = later j (omega arith) in
        (suc h.0, h.1 ∙ add_one_more from h.0, record { item = h.2.item; stands = h.2.stands; passes = h.2.passes })
    by false is later j lt =
        let h = later j lt in
        (suc h.0, h.1 ∙ add_one_more from h.0, record { item = h.2.item; stands = h.2.stands; passes = h.2.passes })

-- each item that passes has its place
pub places-complete : {A : Type 0} (test : A → Bool) (from : ℕ) (xs : List A) (n : ℕ) (x : A) → slice_get xs n ≡ Some x → test x ≡ true
    → (j : ℕ) × (j < length (places test from xs)) × (get_or (places test from xs) j 0 ≡ from + n)
places-complete test from [] n x is passes = cc
places-complete test from (y ∷ ys) zero x is passes =
    let same : test y ≡ true = cc in
    subst (λ (b : Bool). (j : ℕ) × (j < length (cond b (from ∷ places test (from + 1) ys) (places test (from + 1) ys))) × (get_or (cond b (from ∷ places test (from + 1) ys) (places test (from + 1) ys)) j 0 ≡ from + zero))
    (sym same) (zero, omega arith, omega arith)
places-complete test from (y ∷ ys) (suc n) x is passes =
    by (test y) (places-complete test (from + 1) ys n x is passes)
  where
    by : (b : Bool) → (j : ℕ) × (j < length (places test (from + 1) ys)) × (get_or (places test (from + 1) ys) j 0 ≡ from + 1 + n)
        → (j : ℕ) × (j < length (cond b (from ∷ places test (from + 1) ys) (places test (from + 1) ys))) × (get_or (cond b (from ∷ places test (from + 1) ys) (places test (from + 1) ys)) j 0 ≡ from + suc n)
    by true h = (suc h.0, omega (arith, h.1), omega (arith, h.2))
    by false h = (h.0, h.1, omega (arith, h.2))

-- one more item has the last place, if it passes
pub places-push : {A : Type 0} (test : A → Bool) (from : ℕ) (xs : List A) (x : A)
    → places test from (xs ++ x ∷ []) ≡ places test from xs ++ cond (test x) ((from + length xs) ∷ []) []
places-push test from [] x = by (test x)
  where
    by : (b : Bool) → cond b (from ∷ []) [] ≡ cond b ((from + 0) ∷ []) []
    by true = ap (λ n. n ∷ []) (sym (add-zero from))
    by false = refl
places-push test from (y ∷ ys) x = by (test y) (places-push test (from + 1) ys x)
  where
    last : from + 1 + length ys ≡ from + suc (length ys)
    last = omega arith

    by : (b : Bool) → places test (from + 1) (ys ++ x ∷ []) ≡ places test (from + 1) ys ++ cond (test x) ((from + 1 + length ys) ∷ []) []
        → cond b (from ∷ places test (from + 1) (ys ++ x ∷ [])) (places test (from + 1) (ys ++ x ∷ []))
        ≡ cond b (from ∷ places test (from + 1) ys) (places test (from + 1) ys) ++ cond (test x) ((from + suc (length ys)) ∷ []) []
    by true h = ap (λ ns. from ∷ ns) (h ∙ ap (λ n. places test (from + 1) ys ++ cond (test x) (n ∷ []) []) last)
    by false h = h ∙ ap (λ n. places test (from + 1) ys ++ cond (test x) (n ∷ []) []) last

-- an item that stands at a place is in the list
pub Contains-from : {A : Type 0} (xs : List A) (n : ℕ) (x : A) → slice_get xs n ≡ Some x → Contains xs x
Contains-from xs n x is = (n, slice_get_within xs n x is, get_or_from_slice_get xs n x x is)

pub Contains-stands : {A : Type 0} (xs : List A) (x : A) → Contains xs x → (n : ℕ) × (slice_get xs n ≡ Some x)
Contains-stands xs x h = (h.0, slice_get-get_or xs h.0 x h.1 ∙ ap Some h.2)

-- what stands in a list with one more item
pub slice_get-push : {A : Type 0} (xs : List A) (x : A) (n : ℕ) → n < length xs → slice_get (xs ++ x ∷ []) n ≡ slice_get xs n
slice_get-push [] x n lt = absurd (omega arith)
slice_get-push (y ∷ ys) x zero lt = refl
slice_get-push (y ∷ ys) x (suc n) lt = slice_get-push ys x n (omega arith)

pub slice_get-last : {A : Type 0} (xs : List A) (x : A) → slice_get (xs ++ x ∷ []) (length xs) ≡ Some x
slice_get-last [] x = refl
slice_get-last (y ∷ ys) x = slice_get-last ys x

pub below_or_last : {A : Type 0} (xs : List A) (x : A) (n : ℕ) → n < length (xs ++ x ∷ []) → (n < length xs) ⊎ (n ≡ length xs)
below_or_last xs x n lt =
    elim (cases_lt n (length xs)) [
      | inl below ↦ inl below
      | inr beyond ↦ let last : n ≡ length xs = omega (arith, length_push xs x) in inr last
    ]

-- what is in a list with one more item was there, or is that item
pub Contains-push : {A : Type 0} (xs : List A) (x y : A) → Contains (xs ++ x ∷ []) y → Contains xs y ⊎ (x ≡ y)
Contains-push xs x y h =
    let place = Contains-stands (xs ++ x ∷ []) y h in
    elim (below_or_last xs x place.0 (slice_get_within (xs ++ x ∷ []) place.0 y place.1)) [
      | inl below ↦ inl (Contains-from xs place.0 y (sym (slice_get-push xs x place.0 below) ∙ place.1))
      | inr last ↦
          let stands : Some x ≡ Some y = sym (slice_get-last xs x) ∙ ap (slice_get (xs ++ x ∷ [])) (sym last) ∙ place.1 in
          let same : x ≡ y = cc in
          inr same
    ]

same_place : {A : Type 0} (xs : List A) (x : A) → AreDistinct xs → ¬ Contains xs x → (i j : ℕ)
    → (i < length xs) ⊎ (i ≡ length xs) → (j < length xs) ⊎ (j ≡ length xs)
    → slice_get (xs ++ x ∷ []) i ≡ slice_get (xs ++ x ∷ []) j → i ≡ j
same_place xs x distinct new i j (inl p) (inl q) same =
    distinct i j p q (sym (slice_get-push xs x i p) ∙ same ∙ slice_get-push xs x j q)
same_place xs x distinct new i j (inl p) (inr q) same =
    let stands : slice_get xs i ≡ Some x =
    sym (slice_get-push xs x i p) ∙ same ∙ ap (slice_get (xs ++ x ∷ [])) q ∙ slice_get-last xs x in
    absurd (new (Contains-from xs i x stands))
same_place xs x distinct new i j (inr p) (inl q) same =
    let stands : slice_get xs j ≡ Some x =
    sym (slice_get-push xs x j q) ∙ sym same ∙ ap (slice_get (xs ++ x ∷ [])) p ∙ slice_get-last xs x in
    absurd (new (Contains-from xs j x stands))
same_place xs x distinct new i j (inr p) (inr q) same = p ∙ sym q

-- a new item keeps them distinct
pub AreDistinct-push : {A : Type 0} (xs : List A) (x : A) → AreDistinct xs → ¬ Contains xs x → AreDistinct (xs ++ x ∷ [])
AreDistinct-push xs x distinct new = λ i j i_in j_in same.
    same_place xs x distinct new i j (below_or_last xs x i i_in) (below_or_last xs x j j_in) same
