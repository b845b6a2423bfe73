-- How a search stands after it went from place to place.
use Rattle.std.proofs.Common.{◌≡◌, ℕ, zero, suc, ◌+◌, ◌<◌, ◌≤◌, ◌⊎◌, ◌∙◌, List, [], ◌∷◌, ◌++◌, refl, sym, ap, subst, arith, inl, inr}
use Rattle.std.specs.Prelude.{◌↔◌, Option, Some, None, IsSome, MatchOption}
use Rattle.pm_space.specs.Key.{Key, IsKey, Agree}
use Rattle.pm_choice.specs.declared.Bound.{Bound}
use Rattle.pm_choice.specs.declared.Bound.TheVariants.{At}
use Rattle.pm_choice.specs.Order.{Precedes, PrecedesBound, IsWithin, IsUpTo}
use Rattle.pm_choice.specs.Entries.{Closes, Finds}
use Rattle.pm_choice.proofs.OrderLemmas.{irreflexive, transitive, not_below, below_bound}
use Rattle.pm_choice.proofs.EntryLemmas.{count_none, count_alike, count_more, finds_same}
use Rattle.pm_search.specs.declared.Stage.{Stage}
use Rattle.pm_search.specs.declared.Stage.TheVariants.{Attempting, Ended, Answered}
use Rattle.pm_search.specs.declared.Turn.{Turn}
use Rattle.pm_search.specs.declared.Turn.TheVariants.{Closed, Found, Paused}
use Rattle.pm_search.specs.Attempts.{IsAttempt, attempts_of}
use Rattle.pm_search.specs.Turns.{Pauses, IsTurn}
use Rattle.pm_search.specs.Standing.{Standing}
use Rattle.pm_search.specs.Inside.Moves.{EndsTurn}
use Rattle.pm_search.specs.Inside.Places.{IsSearchPlace, SameBelow, OneMoreBelow, IsStageAt, AreHopeless, Holds, next_of}
use Rattle.pm_search.proofs.AttemptLemmas.{complete_is_attempt, attempt_here}
use Rattle.pm_search.proofs.PlaceLemmas.{same_below_trans, more_beside}
use Rattle.pm_search.proofs.AgreeLemmas.{agree_sym, attempt_agrees, same_attempts, closes_agrees, pauses_agrees, holds_agrees}

-- the attempts of the interval below a place are counted, none is complete, and from the place on the
-- interval goes on
pub record Passed (key : Key) (from : List ℕ) (to : Bound) (place : List ℕ) (work : ℕ) : Type 0 where
  pub above : (list : List ℕ) → IsAttempt key list → Precedes list from → Precedes list place
  pub below : (list : List ℕ) → IsAttempt key list → Precedes list place → PrecedesBound list to
  pub closes : Closes (attempts_of key) from (At place) work

-- at the start of the interval
pub passed_start : (key : Key) (from : List ℕ) (to : Bound) → PrecedesBound from to → Passed key from to from 0
passed_start key from to interval = record {
  above = λ list attempt below. below;
  below = λ list attempt below. below_bound list from to below interval;
  closes = record {
    count = count_none (attempts_of key) (IsWithin from (At from)) (λ list attempt within. within.not_below within.below);
    none = λ list complete within. within.not_below within.below;
  };
}

-- after one more attempt, which isn't complete
pub passed_more : (key : Key) (laws : IsKey key) (from : List ℕ) (to : Bound) (tried place : List ℕ) (work : ℕ)
    → Pauses key from to tried work → OneMoreBelow key tried place → (¬ key.complete tried) → Passed key from to place (work + 1)
passed_more key laws from to tried place work pauses more incomplete =
    let within_more : (list : List ℕ) → IsAttempt key list → (IsWithin from (At place) list ↔ (IsWithin from (At tried) list ⊎ (list ≡ tried))) =
    λ list attempt. (
      λ within. elim ((more list attempt).0 within.below) [
        | inl below ↦ inl (record { not_below = within.not_below; below = below })
        | inr same ↦ inr same
      ],
      λ either. elim either [
        | inl within ↦ record { not_below = within.not_below; below = (more list attempt).1 (inl within.below) }
        | inr same ↦ record { not_below = subst (λ (l : List ℕ). ¬ Precedes l from) (sym same) pauses.within.not_below; below = (more list attempt).1 (inr same) }
      ],
    ) in
    record {
      above = λ list attempt below. elim (not_below tried from pauses.within.not_below) [
        | inl same ↦ (more list attempt).1 (inl (subst (λ (l : List ℕ). Precedes list l) (sym same) below))
        | inr after ↦ (more list attempt).1 (inl (transitive list from tried below after))
      ];
      below = λ list attempt below. elim ((more list attempt).0 below) [
        | inl before ↦ below_bound list tried to before pauses.within.below
        | inr same ↦ subst (λ (l : List ℕ). PrecedesBound l to) (sym same) pauses.within.below
      ];
      closes = record {
        count = count_more (attempts_of key) (IsWithin from (At tried)) (IsWithin from (At place)) tried work pauses.attempt (λ list within. within.below) within_more pauses.below.count;
        none = λ list complete within. elim ((within_more list (complete_is_attempt key laws list complete)).0 within) [
          | inl before ↦ pauses.below.none list complete before
          | inr same ↦ incomplete (subst (λ (l : List ℕ). key.complete l) same complete)
        ];
      };
    }

-- once the place is settled
pub holds_settled : (key : Key) (laws : IsKey key) (from : List ℕ) (to : Bound) (place path' place' widths' : List ℕ) (work : ℕ) (stage : Stage)
    → Passed key from to place work → IsSearchPlace key path' place' widths' → SameBelow key place place' → IsStageAt key place' to stage
    → Holds key path' place' widths' from to work stage
holds_settled key laws from to place path' place' widths' work Attempting passed is same settled =
    let within_same : (list : List ℕ) → IsAttempt key list → (IsWithin from (At place) list ↔ IsWithin from (At place') list) =
    λ list attempt. (
      λ within. record { not_below = within.not_below; below = (same list attempt).0 within.below },
      λ within. record { not_below = within.not_below; below = (same list attempt).1 within.below },
    ) in (
      is,
      record {
        attempt = settled.0;
        within = record {
          not_below = λ before. irreflexive place' ((same place' settled.0).0 (passed.above place' settled.0 before));
          below = settled.1;
        };
        below = record {
          count = count_alike (attempts_of key) (IsWithin from (At place)) (IsWithin from (At place')) work within_same passed.closes.count;
          none = λ list complete within. passed.closes.none list complete ((within_same list (complete_is_attempt key laws list complete)).1 within);
        };
      },
    )
holds_settled key laws from to place path' place' widths' work Ended passed is same settled =
    let within_same : (list : List ℕ) → IsAttempt key list → (IsWithin from (At place) list ↔ IsWithin from to list) =
    λ list attempt. (
      λ within. record { not_below = within.not_below; below = passed.below list attempt within.below },
      λ within. record { not_below = within.not_below; below = (same list attempt).1 (settled list attempt within.below) },
    ) in
    record {
      count = count_alike (attempts_of key) (IsWithin from (At place)) (IsWithin from to) work within_same passed.closes.count;
      none = λ list complete within. passed.closes.none list complete ((within_same list (complete_is_attempt key laws list complete)).1 within);
    }
holds_settled key laws from to place path' place' widths' work Answered passed is same settled = absurd settled

-- the next attempt is complete
pub finds_next : (key : Key) (laws : IsKey key) (from : List ℕ) (to : Bound) (next found : List ℕ) (work : ℕ)
    → Pauses key from to next work → key.complete next → found ≡ next → Finds (attempts_of key) from to found (work + 1)
finds_next key laws from to next found work pauses complete is =
    let finds : Finds (attempts_of key) from to next (work + 1) = record {
      first = record {
        marked = complete;
        passes = pauses.within;
        least = λ other done within before. pauses.below.none other done (record { not_below = within.not_below; below = before });
      };
      count = count_more (attempts_of key) (IsWithin from (At next)) (IsUpTo from next) next work pauses.attempt (λ list within. within.below)
          (λ list attempt. (
            λ up_to. elim (not_below next list up_to.not_above) [
              | inl same ↦ inr (sym same)
              | inr before ↦ inl (record { not_below = up_to.not_below; below = before })
            ],
            λ either. elim either [
              | inl within ↦ record { not_below = within.not_below; not_above = λ after. irreflexive next (transitive next list next after within.below) }
              | inr same ↦ record {
                not_below = subst (λ (l : List ℕ). ¬ Precedes l from) (sym same) pauses.within.not_below;
                not_above = subst (λ (l : List ℕ). ¬ Precedes next l) (sym same) (irreflexive next);
              }
            ],
          ))
          pauses.below.count;
    } in
    subst (λ (l : List ℕ). Finds (attempts_of key) from to l (work + 1)) (sym is) finds

-- a search that has a next attempt stands at it
pub at_next : (key : Key) (path place widths from : List ℕ) (to : Bound) (worked : ℕ) (stage : Stage) → IsSome (next_of stage place)
    → Holds key path place widths from to worked stage → IsSearchPlace key path place widths × Pauses key from to place worked
at_next key path place widths from to worked Attempting some holds = holds
at_next key path place widths from to worked Ended some holds = absurd cc
at_next key path place widths from to worked Answered some holds = absurd cc

-- a search that stops where it stands has answered for its turn
pub stops : {S : Type 0} → (key : Key) (search : Standing S) (from : List ℕ) (to : Bound) (most : ℕ) (turn : Turn) → from ≡ search.from → to ≡ search.to → search.worked ≤ most
    → (IsSome search.next → search.worked ≡ most) → EndsTurn key search turn → IsTurn key from to most turn
stops key search from to most (Closed work) from_is to_is within all ends =
    (subst (λ (f : List ℕ). Closes (attempts_of key) f to work) (sym from_is) (subst (λ (t : Bound). Closes (attempts_of key) search.from t work) (sym to_is) ends.0), omega (arith, ends.2))
stops key search from to most (Found path work) from_is to_is within all ends = absurd ends
stops key search from to most (Paused next work) from_is to_is within all ends =
    let some : IsSome search.next = subst (λ (o : Option (List ℕ)). IsSome o) (sym ends.1) refl in
    (subst (λ (f : List ℕ). Pauses key f to next work) (sym from_is) (subst (λ (t : Bound). Pauses key search.from t next work) (sym to_is) ends.0), omega (arith, ends.2, all some))

pub passed_agrees : (key other : Key) → Agree other key → (from : List ℕ) (to : Bound) (place : List ℕ) (work : ℕ) → Passed other from to place work → Passed key from to place work
passed_agrees key other agree from to place work passed = record {
  above = λ list attempt. passed.above list (attempt_agrees other key (agree_sym other key agree) list attempt);
  below = λ list attempt. passed.below list (attempt_agrees other key (agree_sym other key agree) list attempt);
  closes = closes_agrees key other agree from (At place) work passed.closes;
}

-- where nothing changed but for a key that agrees
pub holds_kept : (key other : Key) → Agree key other → (path place widths path' place' widths' from : List ℕ) (to : Bound) (worked : ℕ) (stage : Stage)
    → path' ≡ path → place' ≡ place → widths' ≡ widths → Holds other path place widths from to worked stage → Holds key path' place' widths' from to worked stage
holds_kept key other agree path place widths path' place' widths' from to worked stage path_is place_is widths_is holds =
    let agreed : Holds key path place widths from to worked stage =
    holds_agrees key other (agree_sym key other agree) path place widths from to worked stage holds in
    subst (λ (p : List ℕ). Holds key p place' widths' from to worked stage) (sym path_is)
    (subst (λ (p : List ℕ). Holds key path p widths' from to worked stage) (sym place_is)
    (subst (λ (w : List ℕ). Holds key path place w from to worked stage) (sym widths_is) agreed))

-- what a search found, told of its start
pub found_turn : (key other : Key) → Agree other key → (from from' : List ℕ) (to to' : Bound) (path : List ℕ) (work work' most : ℕ)
    → from' ≡ from → to' ≡ to → work' ≡ work → work ≤ most → Finds (attempts_of other) from' to' path work → Finds (attempts_of key) from to path work' × (work' ≤ most)
found_turn key other agree from from' to to' path work work' most from_is to_is work_is within finds = (
  subst (λ (n : ℕ). Finds (attempts_of key) from to path n) (sym work_is)
      (subst (λ (f : List ℕ). Finds (attempts_of key) f to path work) from_is
      (subst (λ (t : Bound). Finds (attempts_of key) from' t path work) to_is (finds_same (attempts_of other) (attempts_of key) (same_attempts key other agree) from' to' path work finds))),
  omega arith,
)

pub same_below_agrees : (key other : Key) → Agree other key → (a b : List ℕ) → SameBelow other a b → SameBelow key a b
same_below_agrees key other agree a b same list attempt = same list (attempt_agrees other key (agree_sym other key agree) list attempt)

-- a search that was sought
pub sought : (key : Key) (laws : IsKey key) (from from' : List ℕ) (to : Bound) (place path' place' widths' : List ℕ) (stage : Stage) → from' ≡ from → PrecedesBound from to
    → SameBelow key from place → SameBelow key place place' → IsStageAt key place' to stage → IsSearchPlace key path' place' widths' → Holds key path' place' widths' from' to 0 stage
sought key laws from from' to place path' place' widths' stage from_is interval down up settled is =
    subst (λ (f : List ℕ). Holds key path' place' widths' f to 0 stage) (sym from_is)
    (holds_settled key laws from to from path' place' widths' 0 stage (passed_start key from to interval) is (same_below_trans key from place place' down up) settled)

-- before it has answered, a search is ahead
pub is_ahead : (key : Key) (path place widths from : List ℕ) (to : Bound) (worked : ℕ) (stage : Stage) → IsStageAt key place to stage → Holds key path place widths from to worked stage
    → MatchOption (next_of stage place) (Closes (attempts_of key) from to worked) (λ next. Pauses key from to next worked)
is_ahead key path place widths from to worked Attempting settled holds = holds.1
is_ahead key path place widths from to worked Ended settled holds = holds
is_ahead key path place widths from to worked Answered settled holds = absurd settled

pub is_ahead_agrees : (key other : Key) → Agree other key → (from : List ℕ) (to : Bound) (worked : ℕ) (next : Option (List ℕ))
    → MatchOption next (Closes (attempts_of other) from to worked) (λ n. Pauses other from to n worked) → MatchOption next (Closes (attempts_of key) from to worked) (λ n. Pauses key from to n worked)
is_ahead_agrees key other agree from to worked None ahead = closes_agrees key other agree from to worked ahead
is_ahead_agrees key other agree from to worked (Some next) ahead = pauses_agrees key other agree from to next worked ahead

-- a search at its next attempt has passed the attempts below it
pub passed_below : (key : Key) (from : List ℕ) (to : Bound) (next : List ℕ) (work : ℕ) → Pauses key from to next work → Passed key from to next work
passed_below key from to next work pauses = record {
  above = λ list attempt before. elim (not_below next from pauses.within.not_below) [
    | inl same ↦ subst (λ (l : List ℕ). Precedes list l) (sym same) before
    | inr after ↦ transitive list from next before after
  ];
  below = λ list attempt before. below_bound list next to before pauses.within.below;
  closes = pauses.below;
}

-- one more list beside those that were passed
pass_one : (key : Key) (laws : IsKey key) (from : List ℕ) (to : Bound) (path : List ℕ) (choice work : ℕ) → key.reached path → choice < key.width path
    → (¬ key.reached (path ++ choice ∷ [])) → PrecedesBound (path ++ choice ∷ []) to → Passed key from to (path ++ choice ∷ []) work → Passed key from to (path ++ (choice + 1) ∷ []) (work + 1)
pass_one key laws from to path choice work reached alternative missed below passed =
    let attempt : IsAttempt key (path ++ choice ∷ []) = attempt_here key laws (path ++ choice ∷ []) path choice refl reached alternative in
    passed_more key laws from to (path ++ choice ∷ []) (path ++ (choice + 1) ∷ []) work
    (record {
      attempt = attempt;
      within = record { not_below = λ before. irreflexive (path ++ choice ∷ []) (passed.above (path ++ choice ∷ []) attempt before); below = below };
      below = passed.closes;
    })
    (more_beside key laws path choice missed) (λ complete. missed (laws.complete_reached (path ++ choice ∷ []) complete))

-- so many lists beside one another
pass_many : (key : Key) (laws : IsKey key) (from : List ℕ) (to : Bound) (path place next : List ℕ) (count work : ℕ) → key.reached path → (hopeless : AreHopeless key path place next to count)
    → Passed key from to place work → (n : ℕ) → n ≤ count → Passed key from to (path ++ (hopeless.choice + n) ∷ []) (work + n)
pass_many key laws from to path place next count work reached hopeless passed zero within =
    let choice_is : hopeless.choice ≡ hopeless.choice + 0 = omega arith in
    let work_is : work ≡ work + 0 = omega arith in
    let place_is : place ≡ path ++ (hopeless.choice + 0) ∷ [] = hopeless.first ∙ ap (λ (k : ℕ). path ++ k ∷ []) choice_is in
    subst (λ (w : ℕ). Passed key from to (path ++ (hopeless.choice + 0) ∷ []) w) work_is (subst (λ (l : List ℕ). Passed key from to l work) place_is passed)
pass_many key laws from to path place next count work reached hopeless passed (suc n) within =
    let before = pass_many key laws from to path place next count work reached hopeless passed n (omega arith) in
    let low : hopeless.choice ≤ hopeless.choice + n = omega arith in
    let high : hopeless.choice + n < hopeless.choice + count = omega arith in
    let alternative : hopeless.choice + n < key.width path = omega (arith, hopeless.alternatives) in
    let after : Passed key from to (path ++ (hopeless.choice + n + 1) ∷ []) (work + n + 1) =
    pass_one key laws from to path (hopeless.choice + n) (work + n) reached alternative (hopeless.unreached (hopeless.choice + n) low high) (hopeless.below (hopeless.choice + n) low high) before in
    let choice_is : hopeless.choice + n + 1 ≡ hopeless.choice + suc n = omega arith in
    let work_is : work + n + 1 ≡ work + suc n = omega arith in
    subst (λ (w : ℕ). Passed key from to (path ++ (hopeless.choice + suc n) ∷ []) w) work_is (subst (λ (k : ℕ). Passed key from to (path ++ k ∷ []) (work + n + 1)) choice_is after)

pub passed_hopeless : (key : Key) (laws : IsKey key) (from : List ℕ) (to : Bound) (path place next : List ℕ) (count work : ℕ) → key.reached path → AreHopeless key path place next to count
    → Pauses key from to place work → Passed key from to next (work + count)
passed_hopeless key laws from to path place next count work reached hopeless pauses =
    subst (λ (l : List ℕ). Passed key from to l (work + count)) (sym hopeless.beside)
    (pass_many key laws from to path place next count work reached hopeless (passed_below key from to place work pauses) count (omega arith))

-- the new place is one of the same path
pub place_beside_hopeless : (key : Key) (path place next widths : List ℕ) (to : Bound) (count : ℕ) → IsSearchPlace key path place widths → AreHopeless key path place next to count → IsSearchPlace key path next widths
place_beside_hopeless key path place next widths to count is hopeless =
    record { reached = is.reached; measured = is.measured; ends = (hopeless.choice + count, hopeless.beside) }
