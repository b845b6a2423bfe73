-- Going from a node to the next one that doesn't lie below it.
use Rattle.std.proofs.Common.{◌≡◌, ◌∙◌, ◌<◌, ◌≤◌, ◌⊎◌, inl, inr, ℕ, zero, suc, ◌+◌, ◌-◌, Bool, true, false, cond, ltb, List, [], ◌∷◌, length, drop, Some, ap, refl, arith}
use Rattle.std.specs.Prelude.{slice_get, slice_index}
use Rattle.std.proofs.lemmas.Bool.{cases_lt, cases_eq}
use Rattle.std.proofs.lemmas.Bool.Decides.{Decides-ltb}
use Rattle.std.proofs.lemmas.List.{length-map}
use Rattle.pm_logic.specs.Tableau.{Entry}
use Rattle.pm_check.specs.Inside.Siblings.{siblings, depths, IsNextPlace}

-- ---- the next place

-- the nodes from a place on up to an end lie below it
pub record GoesUpTo (ds : List ℕ) (place end_place : ℕ) : Type 0 where
  pub after : place < end_place
  pub within : end_place ≤ length ds
  pub below : (k : ℕ) → place < k → k < end_place → slice_index ds place < slice_index ds k

-- ---- siblings

not_less : (a b : ℕ) → b ≤ a → ltb a b ≡ false
not_less a b le = by (ltb a b) refl
  where
    by : (t : Bool) → ltb a b ≡ t → ltb a b ≡ false
    by true is = absurd (omega (arith, (Decides-ltb a b).0 is))
    by false is = is

is_less : (a b : ℕ) → a < b → ltb a b ≡ true
is_less a b lt = (Decides-ltb a b).1 lt

-- a node above ends the siblings, a deeper one is passed over, and one at the depth is a sibling
pub siblings-above : (d : ℕ) (e : Entry) (es : List Entry) → e.depth < d → siblings d (e ∷ es) ≡ []
siblings-above d e es lt = ap (λ b. cond b [] (cond (ltb d e.depth) (siblings d es) (e ∷ siblings d es))) (is_less e.depth d lt)

pub siblings-below : (d : ℕ) (e : Entry) (es : List Entry) → d < e.depth → siblings d (e ∷ es) ≡ siblings d es
siblings-below d e es lt =
    ap (λ b. cond b [] (cond (ltb d e.depth) (siblings d es) (e ∷ siblings d es))) (not_less e.depth d (omega arith))
    ∙ ap (λ b. cond b (siblings d es) (e ∷ siblings d es)) (is_less d e.depth lt)

pub siblings-at : (d : ℕ) (e : Entry) (es : List Entry) → e.depth ≡ d → siblings d (e ∷ es) ≡ e ∷ siblings d es
siblings-at d e es same =
    ap (λ b. cond b [] (cond (ltb d e.depth) (siblings d es) (e ∷ siblings d es))) (not_less e.depth d (omega arith))
    ∙ ap (λ b. cond b (siblings d es) (e ∷ siblings d es)) (not_less d e.depth (omega arith))

-- ---- places of a list

pub stands_within : {A : Type 0} (xs : List A) (i : ℕ) → i < length xs → (x : A) × (slice_get xs i ≡ Some x)
stands_within [] i lt = absurd (omega arith)
stands_within (x ∷ xs) zero lt = (x, refl)
stands_within (x ∷ xs) (suc i) lt = stands_within xs i (omega arith)

pub drop_stands : {A : Type 0} (xs : List A) (i : ℕ) (x : A) → slice_get xs i ≡ Some x → drop i xs ≡ x ∷ drop (i + 1) xs
drop_stands [] i x is = cc
drop_stands (y ∷ xs) zero x is = let same : y ≡ x = cc in ap (λ z. z ∷ xs) same
drop_stands (y ∷ xs) (suc i) x is =
    let inside : i + 1 ≡ suc i = omega arith in
    let outside : suc (suc i) ≡ suc i + 1 = omega arith in
    drop_stands xs i x is ∙ ap (λ n. x ∷ drop n xs) inside ∙ ap (λ n. x ∷ drop n (y ∷ xs)) outside

pub drop_end : {A : Type 0} (xs : List A) (i : ℕ) → length xs ≤ i → drop i xs ≡ []
drop_end [] zero le = refl
drop_end [] (suc i) le = refl
drop_end (x ∷ xs) zero le = absurd (omega arith)
drop_end (x ∷ xs) (suc i) le = drop_end xs i (omega arith)

pub depth_at : (es : List Entry) (i : ℕ) (e : Entry) → slice_get es i ≡ Some e → slice_index (depths es) i ≡ e.depth
depth_at [] i e is = cc
depth_at (x ∷ es) zero e is = let same : x ≡ e = cc in ap (λ (y : Entry). y.depth) same
depth_at (x ∷ es) (suc i) e is = depth_at es i e is

-- ---- from child to child

-- nodes that lie deeper are passed over
skip_from : (d n from : ℕ) (es : List Entry) → from + n ≤ length es → ((k : ℕ) → from ≤ k → k < from + n → d < slice_index (depths es) k) → siblings d (drop from es) ≡ siblings d (drop (from + n) es)
skip_from d zero from es le deeper = let same : from ≡ from + zero = omega arith in ap (λ m. siblings d (drop m es)) same
skip_from d (suc n) from es le deeper =
    let here = stands_within es from (omega arith) in
    let deep : d < here.0.depth = omega (arith, deeper from (omega arith) (omega arith), depth_at es from here.0 here.1) in
    let same : from + 1 + n ≡ from + suc n = omega arith in
    ap (siblings d) (drop_stands es from here.0 here.1)
    ∙ siblings-below d here.0 (drop (from + 1) es) deep
    ∙ skip_from d n (from + 1) es (omega arith) (λ k ge lt. deeper k (omega arith) (omega arith))
    ∙ ap (λ m. siblings d (drop m es)) same

-- what comes after a sibling is what comes after the nodes below it
pub siblings-next : (d : ℕ) (es : List Entry) (place next : ℕ) (e : Entry) → slice_get es place ≡ Some e → e.depth ≡ d → IsNextPlace (depths es) place next
    → siblings d (drop place es) ≡ e ∷ siblings d (drop next es)
siblings-next d es place next e is same skips =
    let depth : slice_index (depths es) place ≡ d = depth_at es place e is ∙ same in
    let count : length (depths es) ≡ length es = length-map es (λ (x : Entry). x.depth) in
    let whole : place + 1 + (next - (place + 1)) ≡ next = omega (arith, skips.after) in
    ap (siblings d) (drop_stands es place e is)
    ∙ siblings-at d e (drop (place + 1) es) same
    ∙ ap (λ xs. e ∷ xs)
    (skip_from d (next - (place + 1)) (place + 1) es (omega (arith, skips.within, count))
    (λ k ge lt. omega (arith, skips.below k (omega arith) (omega arith), depth))
    ∙ ap (λ m. siblings d (drop m es)) whole)

-- the next place has no deeper node
pub next_shallow : (d : ℕ) (ds : List ℕ) (place next : ℕ) → slice_index ds place ≡ d → IsNextPlace ds place next → (next ≤ length ds) × (next < length ds → slice_index ds next ≤ d)
next_shallow d ds place next same skips = (skips.within, λ lt. omega (arith, skips.ends lt))

-- where no sibling stands there is none left
pub siblings-none : (d : ℕ) (es : List Entry) (place : ℕ) → (place < length es → slice_index (depths es) place ≤ d) → ((place < length es) × (slice_index (depths es) place ≡ d) → ⊥)
    → siblings d (drop place es) ≡ []
siblings-none d es place shallow apart = by (cases_lt place (length es))
  where
    by : (place < length es) ⊎ (length es ≤ place) → siblings d (drop place es) ≡ []
    by (inr past) = ap (siblings d) (drop_end es place past)
    by (inl lt) =
        let here = stands_within es place lt in
        let above : here.0.depth < d = strictly (cases_eq here.0.depth d) here.1 lt in
        ap (siblings d) (drop_stands es place here.0 here.1) ∙ siblings-above d here.0 (drop (place + 1) es) above
      where
        strictly : {e : Entry} → (e.depth ≡ d) ⊎ (e.depth ≡ d → ⊥) → slice_get es place ≡ Some e → place < length es → e.depth < d
        strictly {e} (inl same) is lt = absurd (apart (lt, depth_at es place e is ∙ same))
        strictly {e} (inr other) is lt = omega (arith, shallow lt, depth_at es place e is)
