-- The place of a search in its space: the next list to try, beside what its space knows.
use Rattle.std.specs.Prelude.{◌≡◌, ℕ, ◌+◌, ◌^◌, ◌<◌, ◌≤◌, ◌↔◌, ◌⊎◌, Bool, true, false, List, [], ◌∷◌, ◌++◌, length, take, slice_index, Option, Some, None}
use Rattle.pm_space.specs.Key.{Key}
use Rattle.pm_choice.specs.declared.Bound.{Bound}
use Rattle.pm_choice.specs.Order.{Precedes, PrecedesBound}
use Rattle.pm_choice.specs.Entries.{Closes}
use Rattle.pm_search.specs.declared.Stage.{Stage}
use Rattle.pm_search.specs.declared.Stage.TheVariants.{Attempting, Ended, Answered}
use Rattle.pm_search.specs.Attempts.{IsAttempt, attempts_of}
use Rattle.pm_search.specs.Turns.{Pauses}

-- The widths are those of the prefixes of a path, the path itself among them.
pub record AreWidths (key : Key) (path widths : List ℕ) : Type 0 where
  pub count : length widths ≡ length path + 1
  pub each : (n : ℕ) → n ≤ length path → slice_index widths n ≡ key.width (take n path)
  pub fits : (n : ℕ) → n ≤ length path → slice_index widths n < 2 ^ 32

-- a place is a choice after the reached path of the space; it needn't be an alternative
pub record IsSearchPlace (key : Key) (path place widths : List ℕ) : Type 0 where
  pub reached : key.reached path
  pub measured : AreWidths key path widths
  pub ends : (choice : ℕ) × (place ≡ path ++ choice ∷ [])

-- the same attempts are below two lists
abbrev pub SameBelow : Key → List ℕ → List ℕ → Type 0
SameBelow key a b = (list : List ℕ) → IsAttempt key list → (Precedes list a ↔ Precedes list b)

-- one attempt more is below the second list, and it is the first list
abbrev pub OneMoreBelow : Key → List ℕ → List ℕ → Type 0
OneMoreBelow key a b =
    (list : List ℕ) → IsAttempt key list → (Precedes list b ↔ (Precedes list a ⊎ (list ≡ a)))

-- no attempt below the bound is left from a place on
abbrev pub NoneLeft : Key → List ℕ → Bound → Type 0
NoneLeft key place to =
    (list : List ℕ) → IsAttempt key list → PrecedesBound list to → Precedes list place

-- the stage of a search that goes on from a place: at an attempt below the bound, or ended
abbrev pub IsStageAt : Key → List ℕ → Bound → Stage → Type 0
IsStageAt key place to Attempting = IsAttempt key place × PrecedesBound place to
IsStageAt key place to Ended = NoneLeft key place to
IsStageAt key place to Answered = ⊥

-- So many lists beside one another, from the one at a place on, aren't reached and are below the
-- bound. The new place is beside the last of them.
pub record AreHopeless (key : Key) (path place next : List ℕ) (to : Bound) (count : ℕ)
    : Type 0 where
  pub choice : ℕ
  pub first : place ≡ path ++ choice ∷ []
  pub beside : next ≡ path ++ (choice + count) ∷ []
  pub alternatives : choice + count ≤ key.width path
  pub unreached : (k : ℕ) → choice ≤ k → k < choice + count → ¬ key.reached (path ++ k ∷ [])
  pub below : (k : ℕ) → choice ≤ k → k < choice + count → PrecedesBound (path ++ k ∷ []) to

-- the list at a place was tried and isn't complete, and the search went on to a new place
pub record HasPassed (key : Key) (path tried place widths : List ℕ) : Type 0 where
  pub is_place : IsSearchPlace key path place widths
  pub one_more : OneMoreBelow key tried place
  pub incomplete : ¬ key.complete tried

-- what is known once the list at a place was tried: whether it is complete
abbrev pub HasTried : Key → List ℕ → List ℕ → List ℕ → List ℕ → Option (List ℕ) → Type 0
HasTried key path tried place widths None = HasPassed key path tried place widths
HasTried key path tried place widths (Some found) =
    key.complete tried × (found ≡ tried) × (path ≡ tried)

-- the same where the list is reached
abbrev pub HasEntered : Key → List ℕ → List ℕ → List ℕ → Option (List ℕ) → Type 0
HasEntered key path place widths None =
    IsSearchPlace key path place widths × (place ≡ path ++ 0 ∷ []) × (¬ key.complete path)
HasEntered key path place widths (Some found) = key.complete path × (found ≡ path)

-- what holds of a search at each stage
abbrev pub Holds : Key → List ℕ → List ℕ → List ℕ → List ℕ → Bound → ℕ → Stage → Type 0
Holds key path place widths from to worked Attempting =
    IsSearchPlace key path place widths × Pauses key from to place worked
Holds key path place widths from to worked Ended = Closes (attempts_of key) from to worked
Holds key path place widths from to worked Answered = Unit {0}

-- the next attempt of a search at a stage
abbrev pub next_of : Stage → List ℕ → Option (List ℕ)
next_of Attempting place = Some place
next_of Ended place = None
next_of Answered place = None

-- whether a search at a stage has answered Closed or Found
abbrev pub has_answered : Stage → Bool
has_answered Attempting = false
has_answered Ended = false
has_answered Answered = true
