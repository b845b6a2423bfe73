-- The heads of a face are in rising order, and so a head's place is found by halving.
use Rattle.std.proofs.Common.{◌≡◌, ℕ, zero, suc, ◌+◌, ◌*◌, ◌<◌, ◌≤◌, ◌⊎◌, inl, inr, Bool, true, false, cond, ◌&&◌, ◌||◌, ◌==◌, List, [], ◌∷◌, ◌++◌, length, map, get_or, All, Some, slice_get, refl, sym, ◌∙◌, subst, arith, eq-eqb, eqb-true, ltb, lt-ltb, ltb-true}
use Rattle.std.specs.List.Sorted.{IsPartitionPoint, IsPartitionedBy}
use Rattle.std.proofs.lemmas.List.{length-map, length-append}
use Rattle.std.proofs.lemmas.List.Sums.{prefix_len_is}
use Rattle.std.proofs.lemmas.List.Elements.{All-tail}
use Rattle.std.proofs.lemmas.Bool.{cases_lt}
use Rattle.std.proofs.lemmas.Option.{slice_get-get_or}
use Rattle.pm_logic.specs.Lists.{places}
use Rattle.pm_logic.specs.Problem.{Literal, Clause}
use Rattle.pm_calculus.specs.Skeleton.{Face}
use Rattle.pm_calculus.specs.Alternatives.{has_face, Head, heads_from, heads}
use Rattle.pm_lift.specs.Inside.Tree.{is_before, place_of_head}
use Rattle.pm_lift.proofs.ComplementLemmas.{and_true, and_both}
use Rattle.pm_lift.proofs.ListLemmas.{first_failing}

-- by clause, and then by literal
abbrev pub Precedes : Head → Head → Type 0
Precedes h k = (h.clause < k.clause) ⊎ ((h.clause ≡ k.clause) × (h.literal < k.literal))

pub before_sound : (h k : Head) → is_before h k ≡ true → Precedes h k
before_sound h k is = by (ltb h.clause k.clause) refl is
  where
    by : (b : Bool) → ltb h.clause k.clause ≡ b
        → b || ((h.clause == k.clause) && ltb h.literal k.literal) ≡ true → Precedes h k
    by true less is = inl (ltb-true h.clause k.clause less)
    by false not_less is =
        let both = and_true (h.clause == k.clause) (ltb h.literal k.literal) is in
        inr (eqb-true h.clause k.clause both.0, ltb-true h.literal k.literal both.1)

or_left : (a b : Bool) → a ≡ true → a || b ≡ true
or_left true b h = refl
or_left false b h = cc

or_right : (a b : Bool) → b ≡ true → a || b ≡ true
or_right true b h = refl
or_right false b h = h

pub before_complete : (h k : Head) → Precedes h k → is_before h k ≡ true
before_complete h k (inl less) =
    or_left (ltb h.clause k.clause) ((h.clause == k.clause) && ltb h.literal k.literal) (lt-ltb h.clause k.clause less)
before_complete h k (inr same) =
    or_right (ltb h.clause k.clause) ((h.clause == k.clause) && ltb h.literal k.literal)
    (and_both (h.clause == k.clause) (ltb h.literal k.literal) (eq-eqb h.clause k.clause same.0) (lt-ltb h.literal k.literal same.1))

pub precedes_later : (h k m : Head) → Precedes h k → Precedes k m → Precedes h m
precedes_later h k m (inl p) (inl q) = inl (omega (arith, p, q))
precedes_later h k m (inl p) (inr q) = inl (omega (arith, p, q.0))
precedes_later h k m (inr p) (inl q) = inl (omega (arith, p.0, q))
precedes_later h k m (inr p) (inr q) = inr (p.0 ∙ q.0, omega (arith, p.1, q.1))

pub not_itself : (h : Head) → ¬ Precedes h h
not_itself h (inl p) = omega (arith, p)
not_itself h (inr p) = omega (arith, p.1)

-- the head precedes each of these
abbrev IsFirst : Head → List Head → Type 0
IsFirst h [] = Unit {0}
IsFirst h (k ∷ ks) = Precedes h k × IsFirst h ks

abbrev AreRising : List Head → Type 0
AreRising [] = Unit {0}
AreRising (h ∷ hs) = IsFirst h hs × AreRising hs

-- each is of this clause or a later one
abbrev AreFrom : ℕ → List Head → Type 0
AreFrom c [] = Unit {0}
AreFrom c (h ∷ hs) = (c ≤ h.clause) × AreFrom c hs

abbrev head_at : ℕ → ℕ → Head
head_at c j = record { clause = c; literal = j }

first_of_later : (c j : ℕ) (hs : List Head) → AreFrom (c + 1) hs → IsFirst (head_at c j) hs
first_of_later c j [] from = tt
first_of_later c j (h ∷ hs) from = (inl (omega (arith, from.0)), first_of_later c j hs from.1)

from_earlier : (c d : ℕ) (hs : List Head) → c ≤ d → AreFrom d hs → AreFrom c hs
from_earlier c d [] le from = tt
from_earlier c d (h ∷ hs) le from = (omega (arith, le, from.0), from_earlier c d hs le from.1)

-- the heads of a clause, before those of later clauses
first_of_clause : (c j : ℕ) (test : Literal → Bool) (start : ℕ) (ls : List Literal) (rest : List Head) → j < start → AreFrom (c + 1) rest
    → IsFirst (head_at c j) (map (head_at c) (places test start ls) ++ rest)
first_of_clause c j test start [] rest lt from = first_of_later c j rest from
first_of_clause c j test start (l ∷ ls) rest lt from = by (test l) (first_of_clause c j test (start + 1) ls rest (omega (arith, lt)) from)
  where
    by : (b : Bool) → IsFirst (head_at c j) (map (head_at c) (places test (start + 1) ls) ++ rest)
        → IsFirst (head_at c j) (map (head_at c) (cond b (start ∷ places test (start + 1) ls) (places test (start + 1) ls)) ++ rest)
    by true h = (inr (refl, lt), h)
    by false h = h

rising_clause : (c : ℕ) (test : Literal → Bool) (start : ℕ) (ls : List Literal) (rest : List Head) → AreFrom (c + 1) rest → AreRising rest
    → AreRising (map (head_at c) (places test start ls) ++ rest)
rising_clause c test start [] rest from rising = rising
rising_clause c test start (l ∷ ls) rest from rising = by (test l) (rising_clause c test (start + 1) ls rest from rising)
  where
    by : (b : Bool) → AreRising (map (head_at c) (places test (start + 1) ls) ++ rest)
        → AreRising (map (head_at c) (cond b (start ∷ places test (start + 1) ls) (places test (start + 1) ls)) ++ rest)
    by true h = (first_of_clause c start test (start + 1) ls rest (omega arith) from, h)
    by false h = h

from_clause : (c : ℕ) (test : Literal → Bool) (start : ℕ) (ls : List Literal) (rest : List Head) → AreFrom (c + 1) rest
    → AreFrom c (map (head_at c) (places test start ls) ++ rest)
from_clause c test start [] rest from = from_earlier c (c + 1) rest (omega arith) from
from_clause c test start (l ∷ ls) rest from = by (test l) (from_clause c test (start + 1) ls rest from)
  where
    by : (b : Bool) → AreFrom c (map (head_at c) (places test (start + 1) ls) ++ rest)
        → AreFrom c (map (head_at c) (cond b (start ∷ places test (start + 1) ls) (places test (start + 1) ls)) ++ rest)
    by true h = (omega arith, h)
    by false h = h

from_number : (face : Face) (from : ℕ) (cs : List Clause) → AreFrom from (heads_from face from cs)
from_number face from [] = tt
from_number face from (c ∷ cs) =
    from_clause from (has_face face) 0 c.literals (heads_from face (from + 1) cs) (from_number face (from + 1) cs)

rising : (face : Face) (from : ℕ) (cs : List Clause) → AreRising (heads_from face from cs)
rising face from [] = tt
rising face from (c ∷ cs) =
    rising_clause from (has_face face) 0 c.literals (heads_from face (from + 1) cs) (from_number face (from + 1) cs) (rising face (from + 1) cs)

first_at : (h k : Head) (hs : List Head) (j : ℕ) → IsFirst h hs → slice_get hs j ≡ Some k → Precedes h k
first_at h k [] j first is = cc
first_at h k (m ∷ hs) zero first is = let same : m ≡ k = cc in subst (Precedes h) same first.0
first_at h k (m ∷ hs) (suc j) first is = first_at h k hs j first.1 is

rising_at : (h k : Head) (hs : List Head) (i j : ℕ) → AreRising hs → i < j → slice_get hs i ≡ Some h → slice_get hs j ≡ Some k → Precedes h k
rising_at h k [] i j rises lt is at = cc
rising_at h k (m ∷ hs) zero zero rises lt is at = absurd (omega (arith, lt))
rising_at h k (m ∷ hs) zero (suc j) rises lt is at = let same : m ≡ h = cc in subst (λ (n : Head). Precedes n k) same (first_at m k hs j rises.0 at)
rising_at h k (m ∷ hs) (suc i) zero rises lt is at = absurd (omega (arith, lt))
rising_at h k (m ∷ hs) (suc i) (suc j) rises lt is at = rising_at h k hs i j rises.1 (omega (arith, lt)) is at

-- of two heads of a face the one that stands first precedes the other
pub heads_rise : (face : Face) (cs : List Clause) (h k : Head) (i j : ℕ) → i < j → slice_get (heads face cs) i ≡ Some h → slice_get (heads face cs) j ≡ Some k → Precedes h k
heads_rise face cs h k i j lt is at = rising_at h k (heads face cs) i j (rising face 0 cs) lt is at

-- a head of the face stands at its place
pub place_found : (face : Face) (cs : List Clause) (h : Head) (i : ℕ) → slice_get (heads face cs) i ≡ Some h → place_of_head h (heads face cs) ≡ i
place_found face cs h i is =
    first_failing (λ other. is_before other h) (heads face cs) i h is (refuted (is_before h h) refl)
    (λ k y lt at. before_complete y h (heads_rise face cs y h k i lt at is))
  where
    refuted : (b : Bool) → is_before h h ≡ b → is_before h h ≡ false
    refuted true passes = absurd (not_itself h (before_sound h h passes))
    refuted false fails = fails

-- how many heads there are at most
pub places_few : {A : Type 0} (test : A → Bool) (start : ℕ) (xs : List A) → length (places test start xs) ≤ length xs
places_few test start [] = omega arith
places_few test start (x ∷ xs) = by (test x) (places_few test (start + 1) xs)
  where
    by : (b : Bool) → length (places test (start + 1) xs) ≤ length xs
        → length (cond b (start ∷ places test (start + 1) xs) (places test (start + 1) xs)) ≤ suc (length xs)
    by true h = omega (arith, h)
    by false h = omega (arith, h)

-- none of the heads that precede one comes after one that doesn't
pub heads_partitioned : (face : Face) (cs : List Clause) (head : Head) → IsPartitionedBy (λ h. is_before h head) (heads face cs)
heads_partitioned face cs head i j d le lt passes =
    elim (cases_lt i j) [
      | inl less ↦
          let hs = heads face cs in
          let at_i = slice_get-get_or hs i d (omega (arith, less, lt)) in
          let at_j = slice_get-get_or hs j d lt in
          let rise = heads_rise face cs (get_or hs i d) (get_or hs j d) i j less at_i at_j in
          before_complete (get_or hs i d) head (precedes_later (get_or hs i d) (get_or hs j d) head rise (before_sound (get_or hs j d) head passes))
      | inr ge ↦
          let same : j ≡ i = omega (arith, le, ge) in
          subst (λ (k : ℕ). is_before (get_or (heads face cs) k d) head ≡ true) same passes
    ]

-- where the heads that precede one end is its place
pub place_at_point : (face : Face) (cs : List Clause) (head : Head) (i : ℕ) → i ≤ length (heads face cs)
    → IsPartitionPoint (λ h. is_before h head ≡ true) (λ h. is_before h head ≡ false) (heads face cs) i → i ≡ place_of_head head (heads face cs)
place_at_point face cs head i le point =
    sym (prefix_len_is (λ h. is_before h head) (heads face cs) i head le (λ k lt. point.0 k head (omega arith) lt) (λ lt. point.1 i head (omega arith) lt))

-- there are few heads
pub heads_few : (face : Face) (from : ℕ) (cs : List Clause) → All (λ c. length c.literals ≤ 255) cs → length (heads_from face from cs) ≤ 255 * length cs
heads_few face from [] few = omega arith
heads_few face from (c ∷ cs) few =
    let hs = map (head_at from) (places (has_face face) 0 c.literals) in
    let first : length c.literals ≤ 255 = few 0 c (omega arith) in
    omega (
      arith,
      length-append hs (heads_from face (from + 1) cs),
      length-map (places (has_face face) 0 c.literals) (head_at from),
      places_few (has_face face) 0 c.literals,
      first,
      heads_few face (from + 1) cs (All-tail (λ (d : Clause). length d.literals ≤ 255) c cs few),
    )
