-- Pools that grow.
use Rattle.std.proofs.Common.{◌≡◌, ℕ, zero, suc, ◌<◌, inl, inr, List, [], ◌∷◌, ◌++◌, Some, length, map, get_or, slice_get, refl, sym, ◌∙◌, ap, ap₂, subst, arith}
use Rattle.std.specs.Prelude.{All, Contains}
use Rattle.std.specs.Option.{option_map}
use Rattle.std.proofs.lemmas.List.{append-nil, append_assoc, get_or_append_left}
use Rattle.std.proofs.lemmas.List.Elements.{All-nil, All-append, All-map, All-weaker, Contains-append_left, Contains-append_right, Contains-append_cases, Contains-get_or, All-contains}
use Rattle.std.proofs.lemmas.Option.{slice_get-map, get_or_from_slice_get}
use Rattle.pm_logic.proofs.ListLemmas.{Contains-from, Contains-stands}
use Rattle.pm_store.specs.Equations.{Equations}
use Rattle.pm_diseq.specs.Notes.{Pair, Note, Kept, Waits, as_pair, pairs_of}
use Rattle.pm_diseq.specs.Standing.{IsWithin, IsKeptApart, ArePairsOf}
use Rattle.pm_diseq.specs.Inside.Comparing.{StaysApart}
use Rattle.pm_diseq.specs.Inside.Waiting.{noted_pair, pair_at, watched, IsPlaceOf, AddsWaits, IsRewait, Rewaits}

pub pairs_of-append : (xs ys : List Note) → pairs_of (xs ++ ys) ≡ pairs_of xs ++ pairs_of ys
pairs_of-append [] ys = refl
pairs_of-append (Kept pair ∷ xs) ys = ap (λ pairs. pair ∷ pairs) (pairs_of-append xs ys)
pairs_of-append (Waits pair v ∷ xs) ys = pairs_of-append xs ys

pairs_of-waits : (pair : Pair) (vs : List ℕ) → pairs_of (map (Waits pair) vs) ≡ []
pairs_of-waits pair [] = refl
pairs_of-waits pair (v ∷ vs) = pairs_of-waits pair vs

-- waiting keeps no further pair
pub pairs_of-AddsWaits : (pair : Pair) (pool grown : List Note) → AddsWaits pair pool grown → pairs_of grown ≡ pairs_of pool
pairs_of-AddsWaits pair pool grown adds =
    ap pairs_of adds.1 ∙ pairs_of-append pool (map (Waits pair) adds.0) ∙ ap (λ pairs. pairs_of pool ++ pairs) (pairs_of-waits pair adds.0) ∙ append-nil (pairs_of pool)

pairs_of-rewaits : (pool more : List Note) → All (IsRewait pool) more → pairs_of more ≡ []
pairs_of-rewaits pool more waits = none more (λ pair there. waits_not pair there)
  where
    none : (notes : List Note) → ((pair : Pair) → Contains notes (Kept pair) → ⊥) → pairs_of notes ≡ []
    none [] lacks = refl
    none (Kept pair ∷ notes) lacks = absurd (lacks pair (0, omega arith, refl))
    none (Waits pair v ∷ notes) lacks = none notes (λ p there. lacks p (Contains-append_right (Waits pair v ∷ []) notes (Kept p) there))

    waits_not : (pair : Pair) → Contains more (Kept pair) → ⊥
    waits_not pair there = subst (IsRewait pool) there.2 (waits there.0 (Kept pair) there.1)

pub pairs_of-Rewaits : (pool grown : List Note) → Rewaits pool grown → pairs_of grown ≡ pairs_of pool
pairs_of-Rewaits pool grown re =
    ap pairs_of re.is ∙ pairs_of-append pool re.more ∙ ap (λ pairs. pairs_of pool ++ pairs) (pairs_of-rewaits pool re.more re.waits) ∙ append-nil (pairs_of pool)

-- where a pair waits
pub at_place : (pool : List Note) (place v : ℕ) → IsPlaceOf pool place v → slice_get pool place ≡ Some (Waits (pair_at pool place) v)
at_place [] place v is = absurd cc
at_place (Kept pair ∷ notes) zero v is = absurd cc
at_place (Waits pair u ∷ notes) zero v is =
    let same : u ≡ v = cc in
    ap (λ w. Some (Waits pair w)) same
at_place (note ∷ notes) (suc place) v is = at_place notes place v is

pub place_of : (pool : List Note) (place v : ℕ) (pair : Pair) → slice_get pool place ≡ Some (Waits pair v) → IsPlaceOf pool place v
place_of pool place v pair is = slice_get-map watched pool place ∙ ap (option_map watched) is

pub pair_at-note : (pool : List Note) (place : ℕ) (note : Note) → slice_get pool place ≡ Some note → pair_at pool place ≡ noted_pair note
pair_at-note pool place note is = ap noted_pair (get_or_from_slice_get pool place note (Kept (as_pair [] [])) is)

pub Contains-map : {A B : Type 0} (f : A → B) (xs : List A) (x : A) → Contains xs x → Contains (map f xs) (f x)
Contains-map f xs x there =
    let stands = Contains-stands xs x there in
    Contains-from (map f xs) stands.0 (f x) (slice_get-map f xs stands.0 ∙ ap (option_map f) stands.1)

-- a pair that is kept apart is so when notes are added
pub kept_apart_more : (s : Equations) (pool more : List Note) (pair : Pair) → IsKeptApart s pool pair → IsKeptApart s (pool ++ more) pair
kept_apart_more s pool more pair apart =
    λ later is_later sound keeps. apart later is_later sound (λ v waits. keeps v (Contains-append_left pool more (Waits pair v) waits))

-- a pair that waits at the variables that keep it apart is kept apart
pub waits_apart : (s : Equations) (pool grown : List Note) (pair : Pair) (vs : List ℕ) → grown ≡ pool ++ map (Waits pair) vs → StaysApart s vs pair
    → IsKeptApart s grown pair
waits_apart s pool grown pair vs is stays = λ later is_later sound keeps.
    stays.apart later is_later sound (λ k d within.
    let v : ℕ = get_or vs k d in
    keeps v
    (subst (λ (notes : List Note). Contains notes (Waits pair v)) (sym is)
    (Contains-append_right pool (map (Waits pair) vs) (Waits pair v) (Contains-map (Waits pair) vs v (Contains-get_or vs k d within))))
    (stays.free k d within))

pub rewaits_none : (pool : List Note) → Rewaits pool pool
rewaits_none pool = record { more = []; is = sym (append-nil pool); waits = All-nil (IsRewait pool) }

pub rewaits_add : (pool grown : List Note) (pair : Pair) → AddsWaits pair pool grown → Contains (pairs_of pool) pair → Rewaits pool grown
rewaits_add pool grown pair adds there = record {
  more = map (Waits pair) adds.0;
  is = adds.1;
  waits = All-map (IsRewait pool) (Waits pair) adds.0 (λ k d within. there);
}

pub rewaits_then : (a b c : List Note) → Rewaits a b → Rewaits b c → Rewaits a c
rewaits_then a b c ab bc = record {
  more = ab.more ++ bc.more;
  is = bc.is ∙ ap (λ notes. notes ++ bc.more) ab.is ∙ append_assoc a ab.more bc.more;
  waits = All-append (IsRewait a) ab.more bc.more ab.waits (All-weaker (IsRewait b) (IsRewait a) (back (pairs_of-Rewaits a b ab)) bc.more bc.waits);
}
  where
    back : pairs_of b ≡ pairs_of a → (note : Note) → IsRewait b note → IsRewait a note
    back same (Kept pair) re = re
    back same (Waits pair v) re = subst (λ (pairs : List Pair). Contains pairs pair) same re

-- pairs of a pool that has grown by further waits
pub pairs_rewaited : (s : Equations) (pool grown : List Note) → Rewaits pool grown → ArePairsOf s pool → ArePairsOf s grown
pairs_rewaited s pool grown re pairs = record {
  within = subst (λ (ps : List Pair). All (IsWithin s) ps) (sym (pairs_of-Rewaits pool grown re)) pairs.within;
  waiting = λ pair v there. subst (λ (ps : List Pair). Contains ps pair) (sym (pairs_of-Rewaits pool grown re))
      (elim (Contains-append_cases pool re.more (Waits pair v) (subst (λ (notes : List Note). Contains notes (Waits pair v)) re.is there)) [
        | inl before ↦ pairs.waiting pair v before
        | inr added ↦ All-contains (IsRewait pool) re.more (Waits pair v) re.waits added
      ]);
}

-- a pair that waits at two variables
pub waits_twice : (pool mid grown : List Note) (place v w : ℕ) → place < length pool → mid ≡ pool ++ Waits (pair_at pool place) v ∷ []
    → grown ≡ mid ++ Waits (pair_at mid place) w ∷ [] → grown ≡ pool ++ map (Waits (pair_at pool place)) (v ∷ w ∷ [])
waits_twice pool mid grown place v w within first second =
    let same : pair_at mid place ≡ pair_at pool place =
    ap noted_pair (ap (λ (notes : List Note). get_or notes place (Kept (as_pair [] []))) first
    ∙ get_or_append_left pool (Waits (pair_at pool place) v ∷ []) (Kept (as_pair [] [])) place within) in
    second ∙ ap₂ (λ notes pair. notes ++ Waits pair w ∷ []) first same ∙ append_assoc pool (Waits (pair_at pool place) v ∷ []) (Waits (pair_at pool place) w ∷ [])
