-- What a library and a sink may do, in their callers' terms.
use Rattle.std.specs.Prelude.{◌≡◌, ℕ, ◌-◌, ◌^◌, ◌<◌, ◌≤◌, ◌⊎◌, List, ◌++◌, length, take, Option, None, Some, Result, IfOk, IfSome, IsSomeAnd, IsErrOf}
use Rattle.std.specs.Option.{option_map}
use Rattle.std.specs.Ordering.{nat_cmp}
use Rattle.std.specs.Cmp.Lexicographic.{slice_cmp}
use Rattle.std.specs.FinMap as map
use Rattle.std.specs.Global.{Vec}
use Rattle.pm_outside.specs.declared.library.FetchFault.{FetchFault}
use Rattle.pm_outside.specs.declared.library.FetchFault.TheVariants.{Missing, TooLong, Failed}

-- files: a finite map from names to bytes
abbrev pub Files : Type 0
Files = map.FinMap (slice_cmp nat_cmp) (List ℕ)

-- A count rose in a call where it is greater afterwards, or where it stands at the last value of a
-- `u64`, at which it stays.
abbrev pub Rose : ℕ → ℕ → Type 0
Rose before after = (before < after) ⊎ (after ≡ 2 ^ 64 - 1)

-- a count never falls, and it changes only in a call with the outcome that it counts
abbrev pub CountsOnly : Type 0 → ℕ → ℕ → Type 0
CountsOnly outcome before after = (before ≤ after) × ((after ≡ before) ⊎ outcome)

-- what callers see of a library: its counts, and its files where it tells them
pub record LibraryView : Type 0 where
  pub faults : ℕ
  pub misses : ℕ
  pub longs : ℕ
  pub told : Option Files

-- the view of a library, from what shows its parts
abbrev pub library_view :
    {A : Type 0} → (A → ℕ) → (A → ℕ) → (A → ℕ) → (A → Option Files) → A → LibraryView
library_view faults misses longs told library =
    record {
      faults = faults library;
      misses = misses library;
      longs = longs library;
      told = told library;
    }

-- What a fetch does to a library, and how it answers: at most so many bytes, those of the file, or
-- a fault that has its cause.
pub record IsFetch (old new : LibraryView) (name : List ℕ) (limit : ℕ)
    (result : Result (Vec ℕ) FetchFault) : Type 0 where
  pub within : IfOk result (λ bytes. length bytes.items ≤ limit)
  pub bytes :
      IfOk result (λ bytes. IfSome old.told (λ files. map.get files name ≡ Some bytes.items))
  pub missing :
      IsErrOf result Missing → Rose old.misses new.misses
      × IfSome old.told (λ files. map.get files name ≡ None)
  pub too_long :
      IsErrOf result TooLong → Rose old.longs new.longs
      × IfSome old.told (λ files. IsSomeAnd (map.get files name) (λ bytes. limit < length bytes))
  pub failed : IsErrOf result Failed → Rose old.faults new.faults
  pub misses : CountsOnly (IsErrOf result Missing) old.misses new.misses
  pub longs : CountsOnly (IsErrOf result TooLong) old.longs new.longs
  pub faults : CountsOnly (IsErrOf result Failed) old.faults new.faults
  pub told : new.told ≡ old.told

-- What has been written gained these bytes at its end, where the sink tells its bytes.
abbrev pub Appends : Option (List ℕ) → Option (List ℕ) → List ℕ → Type 0
Appends old new bytes = new ≡ option_map (λ written. written ++ bytes) old

-- What has been written gained a prefix of these bytes.
abbrev pub AppendsPrefix : Option (List ℕ) → Option (List ℕ) → List ℕ → Type 0
AppendsPrefix old new bytes = (n : ℕ) × Appends old new (take n bytes)
