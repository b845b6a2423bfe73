-- The laws of entries.
use Rattle.std.specs.Prelude.{◌≡◌, ℕ, Bool, List, [], ◌++◌, length, All, IsFalse}
use Rattle.pm_choice.specs.declared.Bound.{Bound}
use Rattle.pm_choice.specs.declared.Bound.TheVariants.{At, End}
use Rattle.pm_choice.specs.Order.{Precedes, PrecedesBound, IsWithin, IsUpTo, IsRising}
use Rattle.pm_choice.specs.Entries.{Entries, entries_of, AreEntries, HasCount, IsFirst, Closes}

-- An interval has one first marked list at most.
abbrev pub FirstIsUnique : Entries → Type 0
FirstIsUnique entries =
    (from : List ℕ) (to : Bound) (first other : List ℕ)
    → IsFirst entries (IsWithin from to) first → IsFirst entries (IsWithin from to) other
    → first ≡ other

-- Two lists are the same where both are the entries that pass a test.
abbrev pub AreOneList : Entries → (List ℕ → Type 0) → Type 0
AreOneList entries test =
    (all other : List (List ℕ)) → AreEntries entries test all → AreEntries entries test other
    → all ≡ other

-- Two counts of the entries that pass a test are equal.
abbrev pub IsOneCount : Entries → (List ℕ → Type 0) → Type 0
IsOneCount entries test =
    (count other : ℕ) → HasCount entries test count → HasCount entries test other → count ≡ other

-- The entries of an interval are one list, and so are those up to and with a list; each has one
-- count.
pub record EntriesAreUnique (entries : Entries) : Type 0 where
  pub within : (from : List ℕ) (to : Bound) → AreOneList entries (IsWithin from to)
  pub up_to : (from last : List ℕ) → AreOneList entries (IsUpTo from last)
  pub count_within : (from : List ℕ) (to : Bound) → IsOneCount entries (IsWithin from to)
  pub count_up_to : (from last : List ℕ) → IsOneCount entries (IsUpTo from last)

-- The entries of two neighbouring intervals, one list after the other, are those of both.
abbrev pub EntriesJoin : Entries → Type 0
EntriesJoin entries =
    (a b : List ℕ) (c : Bound) (left right : List (List ℕ)) → (¬ Precedes b a) → PrecedesBound b c
    → AreEntries entries (IsWithin a (At b)) left → AreEntries entries (IsWithin b c) right
    → AreEntries entries (IsWithin a c) (left ++ right)

-- Where the whole of a rising list closes, none of its lists is marked, and all of them are
-- counted.
abbrev pub ClosedListIsCounted : Type 0
ClosedListIsCounted =
    (all : List (List ℕ)) (marked : List ℕ → Bool) (work : ℕ) → IsRising all
    → Closes (entries_of all marked) [] End work
    → All (λ list. IsFalse (marked list)) all × (work ≡ length all)
