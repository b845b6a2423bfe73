-- Counting along the order of choice lists: which lists count, and which of them are looked for.
use Rattle.std.specs.Prelude.{◌≡◌, ℕ, ◌<◌, ◌↔◌, Bool, List, length, Contains, IsTrue}
use Rattle.pm_choice.specs.declared.Bound.{Bound}
use Rattle.pm_choice.specs.Order.{Precedes, IsWithin, IsUpTo, IsRising}

-- What is counted: some lists are entries, and some are marked.
pub record Entries : Type 1 where
  pub is_entry : List ℕ → Type 0
  pub is_marked : List ℕ → Type 0

-- the entries of a list, some of them marked
abbrev pub entries_of : List (List ℕ) → (List ℕ → Bool) → Entries
entries_of all marked = record {
  is_entry = Contains all;
  is_marked = λ list. Contains all list × IsTrue (marked list);
}

-- The lists are, in order, exactly the entries that pass a test.
pub record AreEntries (entries : Entries) (test : List ℕ → Type 0) (all : List (List ℕ))
    : Type 0 where
  pub rising : IsRising all
  pub exactly : (list : List ℕ) → Contains all list ↔ (entries.is_entry list × test list)

-- so many entries pass a test
pub record HasCount (entries : Entries) (test : List ℕ → Type 0) (count : ℕ) : Type 0 where
  pub all : List (List ℕ)
  pub are : AreEntries entries test all
  pub counted : length all ≡ count

-- no marked list passes a test
abbrev pub NoneMarked : Entries → (List ℕ → Type 0) → Type 0
NoneMarked entries test = (list : List ℕ) → entries.is_marked list → ¬ test list

-- The list is the least marked one that passes a test.
pub record IsFirst (entries : Entries) (test : List ℕ → Type 0) (list : List ℕ) : Type 0 where
  pub marked : entries.is_marked list
  pub passes : test list
  pub least : (other : List ℕ) → entries.is_marked other → test other → ¬ Precedes other list

-- An interval has so many entries, and no list of it is marked.
pub record Closes (entries : Entries) (from : List ℕ) (to : Bound) (work : ℕ) : Type 0 where
  pub count : HasCount entries (IsWithin from to) work
  pub none : NoneMarked entries (IsWithin from to)

-- The path is the first marked list of an interval, and so many entries are there up to and with
-- it.
pub record Finds (entries : Entries) (from : List ℕ) (to : Bound) (path : List ℕ) (work : ℕ)
    : Type 0 where
  pub first : IsFirst entries (IsWithin from to) path
  pub count : HasCount entries (IsUpTo from path) work

-- more than so many entries have no marked list before them
pub record HasMore (entries : Entries) (most : ℕ) : Type 0 where
  pub all : List (List ℕ)
  pub rising : IsRising all
  pub entry : (list : List ℕ) → Contains all list → entries.is_entry list
  pub none : (list : List ℕ) → Contains all list → NoneMarked entries (λ other. Precedes other list)
  pub more : most < length all
