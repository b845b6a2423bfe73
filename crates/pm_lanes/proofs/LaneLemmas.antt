-- From the lanes of a vector to the places that they stand for.
use Rattle.std.proofs.Common.{◌≡◌, ℕ, suc, ◌+◌, ◌-◌, ◌*◌, ◌%◌, ◌^◌, ◌<◌, ◌≤◌, eqb, ltb, Bool, true, false, not, ◌&&◌, cond, List, [], ◌∷◌, map, length, get_or, replicate, bit_or, bit_xor, w32, Some, None, refl, sym, ap, ◌∙◌, subst, arith, inl, inr, lit≤}
use Rattle.std.proofs.lemmas.Bool.{cases_lt, cond-true, cond-false, lt-ltb, le-ltb, not-true, not-false}
use Rattle.std.proofs.lemmas.Nat.{le_or_l, le_or_r}
use Rattle.std.proofs.lemmas.Simd.{length-chunk, get_or-chunk, get_or-replicate, length-zip2, get_or-zip2, tops_compared, length-sel_l, get_or-sel_l, bitmask_splat, leading_from_mask_l, trailing_mask_l}
use Rattle.std.proofs.lemmas.List.Sums.{prefix_len-le-length, prefix_len_passes, prefix_len_stops, prefix_len_is}
use Rattle.std.specs.Int.Bits.{xor_assoc, xor_self, xor_zero_r, xor_zero_l, or_zero_l}
use Rattle.std.specs.List.{prefix_len, position, position_or_len}
use Rattle.std.specs.Slice.Scan.{HoldsNowhere, IsFirstPlace, Marks}
use Rattle.std.specs.Simd.Lanes.{chunk, zip2, sel_l, mask_l, top}
use Rattle.pm_lanes.specs.Lanes.{agrees}
use Rattle.pm_lanes.specs.Inside.Vectors.{IsZeroWhere}

-- ---- lane by lane

-- a vector of four lanes, of which lane k holds f k
pub record Holds (f : ℕ → ℕ) (v : List ℕ) : Type 0 where
  pub long : length v ≡ 4
  pub each : (k : ℕ) → k < 4 → get_or v k 0 ≡ f k

pub loaded : (xs : List ℕ) (at : ℕ) → at + 4 ≤ length xs → Holds (λ k. get_or xs (at + k) 0) (chunk at 4 xs)
loaded xs at room = record { long = length-chunk at 4 xs room; each = λ k within. get_or-chunk at 4 xs k 0 within }

pub splat : (y : ℕ) → Holds (λ _. y) (replicate 4 y)
splat y = record { long = refl; each = λ k within. get_or-replicate 4 k y 0 within }

pub zipped : (o : ℕ → ℕ → ℕ) (f g : ℕ → ℕ) (u v : List ℕ) → Holds f u → Holds g v → Holds (λ k. o (f k) (g k)) (zip2 o u v)
zipped o f g u v hu hv =
    let long_u = hu.long in
    let long_v = hv.long in
    record {
      long = length-zip2 o u v (long_u ∙ sym long_v) ∙ long_u;
      each = λ k within. get_or-zip2 o u v k 0 0 0 (omega arith) (omega arith) ∙ (λ i. o (hu.each k within i) (hv.each k within i));
    }

abbrev lesser : ℕ → ℕ → ℕ
lesser a b = cond (ltb a b) a b

-- `simd_min`
abbrev pub least : List ℕ → List ℕ → List ℕ
least u v = sel_l (map (top 31) (zip2 (λ a b. cond (ltb a b) (2 ^ 32 - 1) 0) u v)) u v

pub least_of : (f g : ℕ → ℕ) (u v : List ℕ) → Holds f u → Holds g v → Holds (λ k. lesser (f k) (g k)) (least u v)
least_of f g u v hu hv =
    let long_u = hu.long in
    let long_v = hv.long in
    let tests = tops_compared w32 ltb u v in
    let long_t : length (zip2 ltb u v) ≡ 4 = length-zip2 ltb u v (long_u ∙ sym long_v) ∙ long_u in
    let chosen : Holds (λ k. lesser (f k) (g k)) (sel_l (zip2 ltb u v) u v) = record {
      long = length-sel_l (zip2 ltb u v) u v (long_t ∙ sym long_u) (long_t ∙ sym long_v) ∙ long_t;
      each = λ k within.
          get_or-sel_l (zip2 ltb u v) u v k 0 (omega arith) (omega arith) (omega arith)
          ∙ ap (λ b. cond b (get_or u k 0) (get_or v k 0)) (get_or-zip2 ltb u v k 0 0 false (omega arith) (omega arith))
          ∙ (λ i. lesser (hu.each k within i) (hv.each k within i));
    } in
    subst (λ ms. Holds (λ k. lesser (f k) (g k)) (sel_l ms u v)) (sym tests) chosen

-- ---- which lanes are 0

same_from_xor : (a b : ℕ) → bit_xor a b ≡ 0 → a ≡ b
same_from_xor a b e =
    sym (xor_zero_r a) ∙ ap (bit_xor a) (sym (xor_self b)) ∙ sym (xor_assoc a b b) ∙ ap (λ x. bit_xor x b) e ∙ xor_zero_l b

clash_by : (wanted entry x : ℕ) → (entry ≡ wanted → x ≡ 0) → (x ≡ 0 → entry ≡ wanted)
    → eqb (lesser (lesser entry wanted) x) 0 ≡ agrees wanted entry
clash_by wanted entry x same differ = grind arith

clash : (wanted entry : ℕ) → eqb (lesser (lesser entry wanted) (bit_xor entry wanted)) 0 ≡ agrees wanted entry
clash wanted entry =
    clash_by wanted entry (bit_xor entry wanted) (λ e. ap (λ n. bit_xor n wanted) e ∙ xor_self wanted) (same_from_xor entry wanted)

pub zero_where_agrees : (wanted at : ℕ) (column v : List ℕ)
    → Holds (λ k. lesser (lesser (get_or column (at + k) 0) wanted) (bit_xor (get_or column (at + k) 0) wanted)) v
    → IsZeroWhere (λ place. agrees wanted (get_or column place 0)) at v
zero_where_agrees wanted at column v h =
    record { long = h.long; each = λ k within. ap (λ x. eqb x 0) (h.each k within) ∙ clash wanted (get_or column (at + k) 0) }

zero_by_parts : (a b n : ℕ) → a ≤ n → b ≤ n → (a ≡ 0 → b ≡ 0 → n ≡ 0) → eqb n 0 ≡ (eqb a 0 && eqb b 0)
zero_by_parts a b n above_a above_b both = grind arith

or_is_zero : (a b : ℕ) → eqb (bit_or a b) 0 ≡ (eqb a 0 && eqb b 0)
or_is_zero a b = zero_by_parts a b (bit_or a b) (le_or_l a b) (le_or_r a b) (λ no_a no_b. (λ i. bit_or (no_a i) (no_b i)) ∙ or_zero_l 0)

pub zero_where_both : (p q : ℕ → Bool) (at : ℕ) (u v : List ℕ) → IsZeroWhere p at u → IsZeroWhere q at v
    → IsZeroWhere (λ place. p place && q place) at (zip2 bit_or u v)
zero_where_both p q at u v hu hv =
    let long_u = hu.long in
    let long_v = hv.long in
    record {
      long = length-zip2 bit_or u v (long_u ∙ sym long_v) ∙ long_u;
      each = λ k within.
          ap (λ x. eqb x 0) (get_or-zip2 bit_or u v k 0 0 0 (omega arith) (omega arith))
          ∙ or_is_zero (get_or u k 0) (get_or v k 0)
          ∙ (λ i. hu.each k within i && hv.each k within i);
    }

-- ---- the bits of a compare

none_set_step : (passes : Bool) (ahead mask n : ℕ) → cond (not passes) (1 + ahead) 0 ≡ suc n → (ahead ≡ n → mask ≡ 0) → cond passes 1 0 + 2 * mask ≡ 0
none_set_step true ahead mask n e rest = absurd (omega arith)
none_set_step false ahead mask n e rest = let none = rest (omega arith) in omega arith

none_set : {X : Type 0} (p : X → Bool) (xs : List X) → prefix_len (λ x. not (p x)) xs ≡ length xs → mask_l (map p xs) ≡ 0
none_set p [] e = refl
none_set p (x ∷ xs) e = none_set_step (p x) (prefix_len (λ x. not (p x)) xs) (mask_l (map p xs)) (length xs) e (none_set p xs)

module _ (test : ℕ → Bool) (at y : ℕ) (v : List ℕ) (long : length v ≡ 4) (each : (k : ℕ) → k < 4 → eqb (get_or v k 0) y ≡ test (at + k)) where
  abbrev equal : ℕ → Bool
  equal x = eqb x y

  abbrev ahead : ℕ
  ahead = prefix_len (λ x. not (equal x)) v

  fails : (k : ℕ) → at ≤ k → k < at + ahead → test k ≡ false
  fails k from to =
      let short = prefix_len-le-length (λ x. not (equal x)) v in
      let place : at + (k - at) ≡ k = omega arith in
      ap test (sym place) ∙ sym (each (k - at) (omega arith)) ∙ not-true _ (prefix_len_passes (λ x. not (equal x)) v (k - at) 0 (omega arith))

  passes : ahead < 4 → test (at + ahead) ≡ true
  passes short =
      sym (each ahead short) ∙ not-false _ (prefix_len_stops (λ x. not (equal x)) v 0 (omega arith))

  stops : 0 < mask_l (map equal v) → ahead < 4
  stops some = elim (cases_lt ahead 4) [
    | inl early ↦ early
    | inr late ↦
        let whole = prefix_len-le-length (λ x. not (equal x)) v in
        let none = none_set equal v (omega arith) in
        absurd (omega arith)
  ]

  abbrev At : ℕ → Type 0
  At k = (k < 4) × IsFirstPlace test at (at + 4) (at + k)

  at_ahead : ahead < 4 → At ahead
  at_ahead short = (short, record { low = omega arith; high = omega arith; before = fails; hit = λ _. passes short })

  first : Marks test at 4 (mask_l (map equal v))
  first = record {
    none = λ e k from to. fails k from (omega (arith, leading_from_mask_l equal v e));
    lowest = λ some. subst At (sym (trailing_mask_l equal 64 v (omega arith) some)) (at_ahead (stops some));
  }

  pub marks : Marks test at 4 (mask_l (map (top 31) (zip2 (λ a b. cond (eqb a b) (2 ^ 32 - 1) 0) v (replicate 4 y))) % 2 ^ 64)
  marks = subst (Marks test at 4) (sym (bitmask_splat w32 eqb v 4 y long (lit≤ tt))) first

-- ---- place by place

pub nowhere_more : (test : ℕ → Bool) (from at : ℕ) → HoldsNowhere test from at → test at ≡ false → HoldsNowhere test from (at + 1)
nowhere_more test from at before here k low high =
    elim (cases_lt k at) [
      | inl earlier ↦ before k low earlier
      | inr not_earlier ↦ let same : at ≡ k = omega arith in ap test (sym same) ∙ here
    ]

place_is : (xs : List ℕ) (id n : ℕ) → n ≤ length xs → HoldsNowhere (λ place. eqb (get_or xs place 0) id) 0 n
    → (n < length xs → eqb (get_or xs n 0) id ≡ true) → position_or_len (λ x. eqb x id) xs ≡ n
place_is xs id n within before hit =
    prefix_len_is (λ x. not (eqb x id)) xs n 0 within (λ k below. ap not (before k (omega arith) below)) (λ short. ap not (hit short))

pub found_at : (xs : List ℕ) (id n : ℕ) → n < length xs → HoldsNowhere (λ place. eqb (get_or xs place 0) id) 0 n
    → eqb (get_or xs n 0) id ≡ true → Some n ≡ position (λ x. eqb x id) xs
found_at xs id n within before hit =
    let P : ℕ → Type 0 = λ m. Some n ≡ cond (ltb m (length xs)) (Some m) None in
    subst P (sym (place_is xs id n (omega arith) before (λ _. hit))) (sym (cond-true _ _ _ (lt-ltb n (length xs) within)))

pub found_nowhere : (xs : List ℕ) (id n : ℕ) → length xs ≤ n → HoldsNowhere (λ place. eqb (get_or xs place 0) id) 0 n
    → None ≡ position (λ x. eqb x id) xs
found_nowhere xs id n whole before =
    let P : ℕ → Type 0 = λ m. None ≡ cond (ltb m (length xs)) (Some m) None in
    let all = place_is xs id (length xs) (omega arith) (λ k from to. before k from (omega arith)) (λ short. absurd (omega arith)) in
    subst P (sym all) (sym (cond-false _ _ _ (le-ltb (length xs) (length xs) (omega arith))))
