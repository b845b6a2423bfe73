-- The ranges of an index, and what they hold once it is made.
use Rattle.std.proofs.Common.{◌≡◌, ℕ, zero, suc, ◌-◌, ◌<◌, ◌≤◌, inl, inr, List, [], ◌∷◌, length, map, take, drop, get_or, ltb, refl, sym, ◌∙◌, ap, arith, lt-ltb, le-ltb}
use Rattle.std.specs.List.{slice_range}
use Rattle.std.proofs.lemmas.Bool.{cases_lt, cond-true, cond-false}
use Rattle.std.proofs.lemmas.List.{length-map, get_or-map, get_or_past, take-map, drop-map}
use Rattle.pm_calculus.specs.Alternatives.{Head}
use Rattle.pm_contra.specs.Inside.Ranges.{ranges, start_from, start_at, AreRanges, AreLaid}

range_from : {A : Type 0} (from : ℕ) (ends : List ℕ) (xs : List A) (k : ℕ) → k < length ends
    → get_or (ranges from ends xs) k [] ≡ slice_range xs (start_from from ends k) (get_or ends k 0)
range_from from [] xs k lt = absurd (omega arith)
range_from from (e ∷ es) xs zero lt = refl
range_from from (e ∷ es) xs (suc k) lt =
    range_from e es xs k (omega arith) ∙ ap (λ n. slice_range xs n (get_or es k 0)) (by k)
  where
    by : (k : ℕ) → start_from e es k ≡ get_or (e ∷ es) k 0
    by zero = refl
    by (suc k) = refl

pub range_beyond : {A : Type 0} (from : ℕ) (ends : List ℕ) (xs : List A) (k : ℕ) → length ends ≤ k → get_or (ranges from ends xs) k [] ≡ []
range_beyond from [] xs k le = refl
range_beyond from (e ∷ es) xs zero le = absurd (omega arith)
range_beyond from (e ∷ es) xs (suc k) le = range_beyond e es xs k (omega arith)

-- where a range begins
pub start_within : (ends : List ℕ) (k : ℕ) → k < length ends → start_at ends k ≡ start_from 0 ends k
start_within ends k lt = cond-true (ltb k (length ends)) (start_from 0 ends k) 0 (lt-ltb k (length ends) lt)

start_beyond : (ends : List ℕ) (k : ℕ) → length ends ≤ k → start_at ends k ≡ 0
start_beyond ends k le = cond-false (ltb k (length ends)) (start_from 0 ends k) 0 (le-ltb k (length ends) le)

-- each range is what stands between its places
pub range_is : {A : Type 0} (ends : List ℕ) (xs : List A) (k : ℕ) → get_or (ranges 0 ends xs) k [] ≡ slice_range xs (start_at ends k) (get_or ends k 0)
range_is ends xs k =
    elim (cases_lt k (length ends)) [
      | inl lt ↦ range_from 0 ends xs k lt ∙ ap (λ n. slice_range xs n (get_or ends k 0)) (sym (start_within ends k lt))
      | inr le ↦
          let none : get_or ends k 0 - start_at ends k ≡ 0 = omega (arith, get_or_past ends k 0 le) in
          range_beyond 0 ends xs k le ∙ ap (λ n. take n (drop (start_at ends k) xs)) (sym none)
    ]

pub range_at : {A : Type 0} (items xs : List A) (ends : List ℕ) (k start end : ℕ) → xs ≡ items → start ≡ start_at ends k → end ≡ get_or ends k 0
    → slice_range xs start end ≡ get_or (ranges 0 ends items) k []
range_at {A} items xs ends k start end items-is start-is end-is =
    ap (λ (l : List A). slice_range l start end) items-is ∙ ap (λ n. slice_range items n end) start-is
    ∙ ap (slice_range items (start_at ends k)) end-is ∙ sym (range_is ends items k)

-- and its places are within the list
pub range_within : (ends : List ℕ) (count : ℕ) → AreRanges ends count → (k : ℕ) → (start_at ends k ≤ get_or ends k 0) × (get_or ends k 0 ≤ count)
range_within ends count h k =
    elim (cases_lt k (length ends)) [
      | inl lt ↦ let there = h k lt in (omega (arith, start_within ends k lt, there.0), there.1)
      | inr le ↦ (omega (arith, start_beyond ends k le), omega (arith, get_or_past ends k 0 le))
    ]

pub slice_range-map : {A B : Type 0} (f : A → B) (xs : List A) (a b : ℕ) → slice_range (map f xs) a b ≡ map f (slice_range xs a b)
slice_range-map f xs a b = ap (take (b - a)) (drop-map f a xs) ∙ take-map f (b - a) (drop a xs)

-- a range is within a column too
pub column_within : {A : Type 0} (items : A → List ℕ) (columns : List A) (ends : List ℕ) (heads : List Head) (q k : ℕ) (column : A) (now : List ℕ)
    → AreLaid ends heads (map items columns) → q < 4 → now ≡ items (get_or columns q column)
    → (q < length columns) × (start_at ends k ≤ get_or ends k 0) × (get_or ends k 0 ≤ length now)
column_within items columns ends heads q k column now h lt now-is =
    let there : q < length columns = omega (arith, h.four, length-map columns items) in
    let long : length (get_or (map items columns) q []) ≡ length heads = h.each q [] (omega (arith, h.four)) in
    let same : length now ≡ length (get_or (map items columns) q []) =
    ap length now-is ∙ ap length (sym (get_or-map items columns q column [] there)) in
    let within = range_within ends (length heads) h.within k in
    (there, within.0, omega (arith, within.1))

-- what stands at a range of a column
pub column_at : {A : Type 0} (items : A → List ℕ) (columns : List A) (ends : List ℕ) (q k start end : ℕ) (column : A) (now : List ℕ)
    → q < length columns → now ≡ items (get_or columns q column) → start ≡ start_at ends k → end ≡ get_or ends k 0
    → slice_range now start end ≡ get_or (get_or (map (λ c. ranges 0 ends (items c)) columns) q []) k []
column_at items columns ends q k start end column now there now-is start-is end-is =
    range_at (items (get_or columns q column)) now ends k start end now-is start-is end-is
    ∙ ap (λ (l : List (List ℕ)). get_or l k []) (sym (get_or-map (λ c. ranges 0 ends (items c)) columns q column [] there))
