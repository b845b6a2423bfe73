-- The order of choice lists, and intervals of them.
use Rattle.std.specs.Prelude.{◌≡◌, ℕ, ◌<◌, ◌⊎◌, ◌↔◌, List, [], ◌∷◌, ◌++◌, All}
use Rattle.std.specs.declared.cmp.Ordering.{Ordering}
use Rattle.std.specs.declared.cmp.Ordering.TheVariants.{Less, Equal, Greater}
use Rattle.pm_choice.specs.declared.Bound.{Bound}
use Rattle.pm_choice.specs.declared.Bound.TheVariants.{At, End}

-- Choice lists are ordered number by number, and a prefix comes before what it begins.
abbrev pub Precedes : List ℕ → List ℕ → Type 0
Precedes list [] = ⊥
Precedes [] (other ∷ others) = Unit {0}
Precedes (choice ∷ choices) (other ∷ others) =
    (choice < other) ⊎ ((choice ≡ other) × Precedes choices others)

-- what a comparison of two lists says
abbrev pub IsOrderOf : Ordering → List ℕ → List ℕ → Type 0
IsOrderOf Less a b = Precedes a b
IsOrderOf Equal a b = a ≡ b
IsOrderOf Greater a b = Precedes b a

-- The end comes after all lists.
abbrev pub PrecedesBound : List ℕ → Bound → Type 0
PrecedesBound list (At bound) = Precedes list bound
PrecedesBound list End = Unit {0}

-- the interval from a list to a bound holds the list and what follows it below the bound
pub record IsWithin (from : List ℕ) (to : Bound) (list : List ℕ) : Type 0 where
  pub not_below : ¬ Precedes list from
  pub below : PrecedesBound list to

-- the lists from one list up to and with another
pub record IsUpTo (from last list : List ℕ) : Type 0 where
  pub not_below : ¬ Precedes list from
  pub not_above : ¬ Precedes last list

-- each list precedes all later ones
abbrev pub IsRising : List (List ℕ) → Type 0
IsRising [] = Unit {0}
IsRising (list ∷ lists) = All (Precedes list) lists × IsRising lists

-- the order is a strict total one
pub record IsStrictTotalOrder (Before : List ℕ → List ℕ → Type 0) : Type 0 where
  pub irreflexive : (list : List ℕ) → ¬ Before list list
  pub transitive : (a b c : List ℕ) → Before a b → Before b c → Before a c
  pub total : (a b : List ℕ) → (Before a b ⊎ (a ≡ b)) ⊎ Before b a

-- a prefix comes before what it begins
abbrev pub PrefixesPrecede : Type 0
PrefixesPrecede =
    (prefix : List ℕ) (choice : ℕ) (choices : List ℕ) → Precedes prefix (prefix ++ choice ∷ choices)

-- Where b is between a and c, the intervals from a to b and from b to c make the one from a to c,
-- and no list is in both.
pub record IntervalsJoin (a b : List ℕ) (c : Bound) : Type 0 where
  pub whole :
      (list : List ℕ) → IsWithin a c list ↔ (IsWithin a (At b) list ⊎ IsWithin b c list)
  pub apart : (list : List ℕ) → IsWithin a (At b) list → IsWithin b c list → ⊥
