-- The way over the entries that wait at a variable.
use Rattle.std.proofs.Common.{◌≡◌, ℕ, suc, ◌<◌, ◌≤◌, ◌⊎◌, inl, inr, Bool, true, false, List, [], ◌∷◌, ◌++◌, Option, Some, None, length, map, slice_get, sym, ◌∙◌, ap, subst, arith}
use Rattle.std.specs.Prelude.{Contains}
use Rattle.std.proofs.lemmas.Bool.{cases_lt}
use Rattle.std.proofs.lemmas.List.Elements.{All-contains, Contains-append_left, Contains-push_cases}
use Rattle.std.proofs.lemmas.Option.{slice_get_within, slice_get_past, none-some}
use Rattle.pm_logic.proofs.ListLemmas.{Contains-from, Contains-stands}
use Rattle.pm_store.specs.Equations.{Equations}
use Rattle.pm_store.proofs.ListLemmas.{slice_get-append}
use Rattle.pm_diseq.specs.Notes.{Pair, Note, Waits, pairs_of}
use Rattle.pm_diseq.specs.Standing.{IsWithin, ArePairsOf, IsKeptApart}
use Rattle.pm_diseq.specs.Inside.Entries.{IsNewest}
use Rattle.pm_diseq.specs.Inside.Waiting.{pair_at, watched, IsPlaceOf, AddsWaits, Watches, Rewaits, HasIdentical, AreLookedAt, Walks}
use Rattle.pm_diseq.proofs.PoolLemmas.{at_place, place_of, pair_at-note, kept_apart_more, rewaits_none, rewaits_add, rewaits_then, pairs_rewaited, pairs_of-Rewaits}

-- how far it still is
abbrev pub places_left : Option ℕ → ℕ
places_left None = 0
places_left (Some place) = suc place

pub walks_first : (s : Equations) (pool : List Note) (v : ℕ) (next : Option ℕ) → IsNewest (map watched pool) (length pool) v next → Walks s pool pool v next
walks_first s pool v next newest = record {
  end = length pool;
  within = omega arith;
  more = rewaits_none pool;
  newest = newest;
  looked = λ k pair beyond is. absurd (none-some (Waits pair v) (sym (slice_get_past pool k beyond) ∙ is));
}

pub walks_done : (s : Equations) (first pool : List Note) (v : ℕ) (next : Option ℕ) → next ≡ None → Walks s first pool v next
    → (pair : Pair) → Contains first (Waits pair v) → IsKeptApart s pool pair
walks_done s first pool v next none walks pair there =
    let stands = Contains-stands first (Waits pair v) there in
    let last : IsNewest (map watched pool) walks.end v None = subst (IsNewest (map watched pool) walks.end v) none walks.newest in
    let now : slice_get pool stands.0 ≡ Some (Waits pair v) =
    ap (λ (notes : List Note). slice_get notes stands.0) walks.more.is ∙ slice_get-append first walks.more.more stands.0 (Waits pair v) stands.1 in
    elim (cases_lt stands.0 walks.end) [
      | inl less ↦ absurd (last stands.0 less (place_of pool stands.0 v pair now))
      | inr beyond ↦ walks.looked stands.0 pair beyond stands.1
    ]

-- the place that comes next
module _ (s : Equations) (first pool : List Note) (v place : ℕ) (next : Option ℕ) (is : next ≡ Some place) (walks : Walks s first pool v next) where
  here : IsNewest (map watched pool) walks.end v (Some place)
  here = subst (IsNewest (map watched pool) walks.end v) is walks.newest

  pub walks_at : slice_get pool place ≡ Some (Waits (pair_at pool place) v)
  walks_at = at_place pool place v here.1

  pub walks_within : place < length pool
  walks_within = slice_get_within pool place (Waits (pair_at pool place) v) walks_at

  -- its pair is a kept one
  pub walks_pair : ArePairsOf s first → Contains (pairs_of pool) (pair_at pool place)
  walks_pair pairs =
      (pairs_rewaited s first pool walks.more pairs).waiting (pair_at pool place) v (Contains-from pool place (Waits (pair_at pool place) v) walks_at)

  pub walks_cells : ArePairsOf s first → IsWithin s (pair_at pool place)
  walks_cells pairs =
      All-contains (IsWithin s) (pairs_of pool) (pair_at pool place) (pairs_rewaited s first pool walks.more pairs).within (walks_pair pairs)

  pub walks_grown : (grown : List Note) → ArePairsOf s first → AddsWaits (pair_at pool place) pool grown → Rewaits first grown
  walks_grown grown pairs adds = rewaits_then first pool grown walks.more (rewaits_add pool grown (pair_at pool place) adds (walks_pair pairs))

  pub walks_identical : ArePairsOf s first → (apart : Bool) (grown : List Note) → apart ≡ false → Watches s (pair_at pool place) grown apart → HasIdentical s first
  walks_identical pairs apart grown answer watches = (
    pair_at pool place,
    subst (λ (ps : List Pair). Contains ps (pair_at pool place)) (pairs_of-Rewaits first pool walks.more) (walks_pair pairs),
    subst (Watches s (pair_at pool place) grown) answer watches,
  )

  -- the entry at the place still stands there
  pub walks_still : (grown : List Note) → AddsWaits (pair_at pool place) pool grown → IsPlaceOf grown place v
  walks_still grown adds =
      place_of grown place v (pair_at pool place)
      (ap (λ (notes : List Note). slice_get notes place) adds.1 ∙ slice_get-append pool (map (Waits (pair_at pool place)) adds.0) place (Waits (pair_at pool place) v) walks_at)

  pub walks_on : (grown : List Note) (apart : Bool) (previous : Option ℕ) → ArePairsOf s first → AddsWaits (pair_at pool place) pool grown
      → apart ≡ true → Watches s (pair_at pool place) grown apart → IsNewest (map watched grown) place v previous → Walks s first grown v previous
  walks_on grown apart previous pairs adds answer watches newest = record {
    end = place;
    within = omega (arith, here.0, walks.within);
    more = walks_grown grown pairs adds;
    newest = newest;
    looked = λ k pair beyond stands. by k pair stands (cases_lt place k) beyond;
  }
    where
      known : IsKeptApart s grown (pair_at pool place)
      known = subst (Watches s (pair_at pool place) grown) answer watches

      now : (k : ℕ) (pair : Pair) → slice_get first k ≡ Some (Waits pair v) → slice_get pool k ≡ Some (Waits pair v)
      now k pair stands = ap (λ (notes : List Note). slice_get notes k) walks.more.is ∙ slice_get-append first walks.more.more k (Waits pair v) stands

      by : (k : ℕ) (pair : Pair) → slice_get first k ≡ Some (Waits pair v) → (place < k) ⊎ (k ≤ place) → place ≤ k → IsKeptApart s grown pair
      by k pair stands (inr most) least =
          let same : k ≡ place = omega arith in
          subst (IsKeptApart s grown) (pair_at-note pool place (Waits pair v) (sym (ap (slice_get pool) same) ∙ now k pair stands)) known
      by k pair stands (inl above) least =
          elim (cases_lt k walks.end) [
            | inl less ↦ absurd (here.2 k above less (place_of pool k v pair (now k pair stands)))
            | inr beyond ↦ subst (λ (notes : List Note). IsKeptApart s notes pair) (sym adds.1)
                (kept_apart_more s pool (map (Waits (pair_at pool place)) adds.0) pair (walks.looked k pair beyond stands))
          ]

pub places_fewer : (s : Equations) (first pool grown : List Note) (v place : ℕ) (next previous : Option ℕ) → next ≡ Some place
    → IsNewest (map watched grown) place v previous → places_left previous < places_left next
places_fewer s first pool grown v place next None is newest = omega (arith, ap places_left is)
places_fewer s first pool grown v place next (Some before) is newest = omega (arith, ap places_left is, newest.0)

-- on the way over variables: the pairs that waited at the first ones are kept apart
abbrev pub LooksAt : Equations → List Note → List ℕ → List Note → Type 0
LooksAt s first vs pool = (pair : Pair) (v : ℕ) → Contains vs v → Contains first (Waits pair v) → IsKeptApart s pool pair

pub looks_on : (s : Equations) (first pool grown : List Note) (vs : List ℕ) (v : ℕ) → Rewaits first pool → Rewaits pool grown
    → LooksAt s first vs pool → AreLookedAt s pool v grown true → LooksAt s first (vs ++ v ∷ []) grown
looks_on s first pool grown vs v more added looked latest pair u within there =
    elim (Contains-push_cases vs v u within) [
      | inl before ↦ subst (λ (notes : List Note). IsKeptApart s notes pair) (sym added.is) (kept_apart_more s pool added.more pair (looked pair u before there))
      | inr same ↦ latest pair (subst (λ (w : ℕ). Contains pool (Waits pair w)) (sym same)
          (subst (λ (notes : List Note). Contains notes (Waits pair u)) (sym more.is) (Contains-append_left first more.more (Waits pair u) there)))
    ]

-- an identical pair was kept before
pub identical_before : (s : Equations) (first pool : List Note) → Rewaits first pool → HasIdentical s pool → HasIdentical s first
identical_before s first pool more found =
    (found.0, subst (λ (ps : List Pair). Contains ps found.0) (pairs_of-Rewaits first pool more) found.1, found.2)
