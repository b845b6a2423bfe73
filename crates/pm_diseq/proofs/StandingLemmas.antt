-- Where pools stand.
use Rattle.std.proofs.Common.{◌≡◌, ℕ, ◌<◌, ◌⊎◌, inl, inr, List, [], ◌∷◌, ◌++◌, Option, Some, None, length, map, slice_get, refl, sym, ◌∙◌, ap, subst, arith}
use Rattle.std.specs.Prelude.{All, Contains}
use Rattle.std.proofs.lemmas.List.{append_assoc, length-append, length-take-le, take-append-le, take-take, take_at}
use Rattle.std.proofs.lemmas.List.Elements.{All-nil, All-push, All-weaker, All-map, All-contains, Contains-append_left, Contains-append_cases, Contains-push, Contains-push_cases}
use Rattle.std.proofs.lemmas.Option.{none-some}
use Rattle.pm_store.specs.Entries.{Entry, Variable}
use Rattle.pm_store.specs.Equations.{Binding, Equations, IsFree, target_of}
use Rattle.pm_store.specs.Sound.{IsSound}
use Rattle.pm_store.specs.Marks.{IsLater}
use Rattle.pm_store.proofs.ListLemmas.{slice_get-append}
use Rattle.pm_store.proofs.MarkLemmas.{growth_is_later, later_is_transitive, marks_restore}
use Rattle.pm_store.proofs.BoundLemmas.{bound_since_tells}
use Rattle.pm_diseq.specs.Notes.{Pair, Note, Kept, Waits, pairs_of, GrowsTo}
use Rattle.pm_diseq.specs.Standing.{AreIdentical, IsWithin, ArePairsOf, IsKeptApart, StandsAt, StoodBefore}
use Rattle.pm_diseq.specs.Laws.{EmptyPoolsStand, PoolsStandLater, StandingPairsAreApart, PoolsStoodAtMarks, PoolMarksLast, PoolMarksNest}
use Rattle.pm_diseq.specs.Inside.Waiting.{noted_pair, AddsWaits, Rewaits, HasIdentical}
use Rattle.pm_diseq.proofs.PoolLemmas.{pairs_of-append, pairs_of-AddsWaits, pairs_of-Rewaits, kept_apart_more, pairs_rewaited}

within_later : (s later : Equations) (pair : Pair) → IsLater s later → IsWithin s pair → IsWithin later pair
within_later s later pair is_later within = record {
  count = within.count;
  left = All-weaker (λ c. c < length s.cells) (λ c. c < length later.cells) longer pair.left within.left;
  right = All-weaker (λ c. c < length s.cells) (λ c. c < length later.cells) longer pair.right within.right;
}
  where
    longer : (c : ℕ) → c < length s.cells → c < length later.cells
    longer c less = omega (arith, less, ap length is_later.cells.1, length-append s.cells is_later.cells.0)

pub pairs_later : (s later : Equations) (pool : List Note) → IsLater s later → ArePairsOf s pool → ArePairsOf later pool
pairs_later s later pool is_later pairs = record {
  within = All-weaker (IsWithin s) (IsWithin later) (λ pair. within_later s later pair is_later) (pairs_of pool) pairs.within;
  waiting = pairs.waiting;
}

variable_later : (s later : Equations) (v : ℕ) → IsLater s later → IsFree s v → slice_get later.cells v ≡ Some Variable
variable_later s later v is_later free =
    ap (λ (es : List Entry). slice_get es v) is_later.cells.1 ∙ slice_get-append s.cells is_later.cells.0 v Variable free.variable

pub empty_pools_stand : EmptyPoolsStand
empty_pools_stand s = record {
  pairs = record { within = All-nil (IsWithin s); waiting = λ pair v there. absurd (omega (arith, there.1)) };
  apart = All-nil (IsKeptApart s []);
}

pub pools_stand_later : PoolsStandLater
pools_stand_later s later pool stands is_later bindings = record {
  pairs = pairs_later s later pool is_later stands.pairs;
  apart = All-weaker (IsKeptApart s pool) (IsKeptApart later pool) (λ pair apart more more_later sound keeps.
      apart more (later_is_transitive s later more is_later more_later) sound (λ v waits free. keeps v waits (record {
        variable = variable_later s later v is_later free;
        unbound = ap (λ (bs : List Binding). target_of bs v) bindings ∙ free.unbound;
      })))
      (pairs_of pool) stands.apart;
}

pub standing_pairs_are_apart : StandingPairsAreApart
standing_pairs_are_apart s pool sound stands =
    All-weaker (IsKeptApart s pool) (λ pair. ¬ AreIdentical s pair) (λ pair apart. apart s (growth_is_later s).unchanged sound (λ v _ free. free))
    (pairs_of pool) stands.apart

pub pool_marks_last : PoolMarksLast
pool_marks_last pool more = record {
  each = λ mark within. record {
    has = omega (arith, within, length-append pool more);
    same = take-append-le mark pool more within;
  };
  restores = take_at pool more (length pool) refl;
}

pub pool_marks_nest : PoolMarksNest
pool_marks_nest pool early late earlier within = record {
  has = omega (arith, earlier, length-take-le late pool within);
  same = take-take early late pool earlier;
}

-- a pair was kept, which the pool keeps apart
pub stands_added : (s : Equations) (pool grown : List Note) (pair : Pair) → StandsAt s pool → IsWithin s pair
    → AddsWaits pair (pool ++ Kept pair ∷ []) grown → IsKeptApart s grown pair → StandsAt s grown
stands_added s pool grown pair stands within adds apart = record {
  pairs = record {
    within = subst (All (IsWithin s)) (sym kept) (All-push (IsWithin s) (pairs_of pool) pair stands.pairs.within within);
    waiting = λ other v there. subst (λ (ps : List Pair). Contains ps other) (sym kept)
        (among other v (Contains-append_cases (pool ++ Kept pair ∷ []) (map (Waits pair) adds.0) (Waits other v)
        (subst (λ (notes : List Note). Contains notes (Waits other v)) adds.1 there)));
  };
  apart = subst (All (IsKeptApart s grown)) (sym kept)
      (All-push (IsKeptApart s grown) (pairs_of pool) pair
      (subst (λ (notes : List Note). All (IsKeptApart s notes) (pairs_of pool)) (sym longer)
      (All-weaker (IsKeptApart s pool) (IsKeptApart s (pool ++ (Kept pair ∷ map (Waits pair) adds.0)))
      (kept_apart_more s pool (Kept pair ∷ map (Waits pair) adds.0)) (pairs_of pool) stands.apart))
      apart);
}
  where
    kept : pairs_of grown ≡ pairs_of pool ++ pair ∷ []
    kept = pairs_of-AddsWaits pair (pool ++ Kept pair ∷ []) grown adds ∙ pairs_of-append pool (Kept pair ∷ [])

    longer : grown ≡ pool ++ (Kept pair ∷ map (Waits pair) adds.0)
    longer = adds.1 ∙ append_assoc pool (Kept pair ∷ []) (map (Waits pair) adds.0)

    -- what waits was kept before, or is the new pair
    among : (other : Pair) (v : ℕ) → Contains (pool ++ Kept pair ∷ []) (Waits other v) ⊎ Contains (map (Waits pair) adds.0) (Waits other v)
        → Contains (pairs_of pool ++ pair ∷ []) other
    among other v (inl before) =
        elim (Contains-push_cases pool (Kept pair) (Waits other v) before) [
          | inl there ↦ Contains-append_left (pairs_of pool) (pair ∷ []) other (stands.pairs.waiting other v there)
          | inr not_kept ↦ absurd cc
        ]
    among other v (inr added) =
        subst (λ (p : Pair). Contains (pairs_of pool ++ pair ∷ []) p) (waits_is adds.0 added) (Contains-push (pairs_of pool) pair)
      where
        waits_is : (vs : List ℕ) → Contains (map (Waits pair) vs) (Waits other v) → pair ≡ other
        waits_is vs there =
            All-contains (λ note. pair ≡ noted_pair note) (map (Waits pair) vs) (Waits other v)
            (All-map (λ note. pair ≡ noted_pair note) (Waits pair) vs (λ k d within'. refl)) there

pub grows_added : (pool grown : List Note) (pair : Pair) → AddsWaits pair (pool ++ Kept pair ∷ []) grown → GrowsTo pool grown (pairs_of pool ++ pair ∷ [])
grows_added pool grown pair adds = record {
  grows = (Kept pair ∷ map (Waits pair) adds.0, adds.1 ∙ append_assoc pool (Kept pair ∷ []) (map (Waits pair) adds.0));
  pairs = pairs_of-AddsWaits pair (pool ++ Kept pair ∷ []) grown adds ∙ pairs_of-append pool (Kept pair ∷ []);
}

-- Where the pool stood before, and each pair that waited at a bound variable is kept apart now, the
-- pool stands: any other pair waits at variables that are still free.
pub stands_settled : (s : Equations) (pool grown : List Note) (bound : List ℕ) → StoodBefore s pool bound → Rewaits pool grown
    → ((pair : Pair) (v : ℕ) → Contains bound v → Contains pool (Waits pair v) → IsKeptApart s grown pair) → StandsAt s grown
stands_settled s pool grown bound stood re looked = record {
  pairs = pairs_rewaited s pool grown re (pairs_later stood.before s pool stood.later stood.stood.pairs);
  apart = subst (All (IsKeptApart s grown)) (sym (pairs_of-Rewaits pool grown re))
      (All-weaker (IsKeptApart stood.before pool) (IsKeptApart s grown) still (pairs_of pool) stood.stood.apart);
}
  where
    noted : (pair : Pair) (v : ℕ) → Contains pool (Waits pair v) → Contains grown (Waits pair v)
    noted pair v there = subst (λ (notes : List Note). Contains notes (Waits pair v)) (sym re.is) (Contains-append_left pool re.more (Waits pair v) there)

    still : (pair : Pair) → IsKeptApart stood.before pool pair → IsKeptApart s grown pair
    still pair apart later is_later sound keeps identical =
        apart later (later_is_transitive stood.before s later stood.later is_later) sound (λ v there free. record {
          variable = variable_later stood.before later v (later_is_transitive stood.before s later stood.later is_later) free;
          unbound = by v there free (target_of later.bindings v) refl;
        }) identical
      where
        -- a bound variable is one of those, so the pair was looked at
        by : (v : ℕ) → Contains pool (Waits pair v) → IsFree stood.before v → (o : Option ℕ) → target_of later.bindings v ≡ o → target_of later.bindings v ≡ None
        by v there free None e = e
        by v there free (Some t) e =
            let not_free : IsFree later v → ⊥ = λ (f : IsFree later v). none-some t (sym f.unbound ∙ e) in
            let not_other : (Contains bound v → ⊥) → ⊥ = λ (other : Contains bound v → ⊥). not_free (keeps v (noted pair v there) ((stood.exactly v free).1 other)) in
            absurd (not_other (λ within. looked pair v within there later is_later sound keeps identical))

pub grows_settled : (pool grown : List Note) → Rewaits pool grown → GrowsTo pool grown (pairs_of pool)
grows_settled pool grown re = record { grows = (re.more, re.is); pairs = pairs_of-Rewaits pool grown re }

pub identical_found : (s : Equations) (pool : List Note) → HasIdentical s pool → ¬ All (λ pair. ¬ AreIdentical s pair) (pairs_of pool)
identical_found s pool found all = All-contains (λ pair. ¬ AreIdentical s pair) (pairs_of pool) found.0 all found.1 found.2

pub pairs_stay_apart : (s : Equations) (pool grown : List Note) (bound : List ℕ) → IsSound s → StoodBefore s pool bound → Rewaits pool grown
    → ((pair : Pair) (v : ℕ) → Contains bound v → Contains pool (Waits pair v) → IsKeptApart s grown pair)
    → All (λ pair. ¬ AreIdentical s pair) (pairs_of pool)
pairs_stay_apart s pool grown bound sound stood re looked =
    subst (All (λ pair. ¬ AreIdentical s pair)) (pairs_of-Rewaits pool grown re)
    (standing_pairs_are_apart s grown sound (stands_settled s pool grown bound stood re looked))

pub pools_stood_at_marks : PoolsStoodAtMarks
pools_stood_at_marks s now pool mark sound stands later counts = record {
  before = s;
  stood = stands;
  later = later;
  exactly = λ v free. bound_since_tells now mark v (record { before = s; sound = sound; later = later; counts = counts })
      (subst (λ (e : Equations). IsFree e v) (sym (marks_restore s now mark later counts)) free);
}
