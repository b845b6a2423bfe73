-- A library that is held in memory, as its callers see it.
use Rattle.std.specs.Prelude.{◌≡◌, ℕ, List, length, Option, None, Some, Result, Ok, Err, MatchResult, if◌then◌else◌, nat_le}
use Rattle.std.specs.Ordering.{nat_cmp}
use Rattle.std.specs.FinMap as map
use Rattle.std.specs.FinSet as set
use Rattle.std.specs.Global.{Vec}
use Rattle.pm_outside.specs.declared.counts.Counts.{Counts}
use Rattle.pm_outside.specs.declared.library.FetchFault.{FetchFault}
use Rattle.pm_outside.specs.declared.library.FetchFault.TheVariants.{Missing, TooLong, Failed, Memory}
use Rattle.pm_outside.specs.Counts.{next_count, no_counts, counts_after}
use Rattle.pm_outside.specs.Outside.{Files, LibraryView}

-- its files, the numbers of the fetches that fail, the number of the next fetch, and the counts
pub record LibraryState : Type 0 where
  pub files : Files
  pub failing : set.FinSet nat_cmp
  pub calls : ℕ
  pub counts : Counts

-- its counts, and its files, which it tells
abbrev pub memory_view : LibraryState → LibraryView
memory_view library =
    record {
      faults = library.counts.faults;
      misses = library.counts.misses;
      longs = library.counts.longs;
      told = Some library.files;
    }

-- no file and no failing fetch, and each count is 0
abbrev pub empty_library : LibraryState
empty_library = record { files = map.empty; failing = set.empty; calls = 0; counts = no_counts }

-- the bytes, where the file is there and has at most so many
abbrev pub answer_of : Option (List ℕ) → ℕ → Result (List ℕ) FetchFault
answer_of None limit = Err Missing
answer_of (Some bytes) limit = if nat_le (length bytes) limit then Ok bytes else Err TooLong

-- what the next fetch answers where there is memory for it
abbrev pub next_answer : LibraryState → List ℕ → ℕ → Result (List ℕ) FetchFault
next_answer library name limit =
    if set.contains library.failing library.calls
    then Err Failed
    else answer_of (map.get library.files name) limit

-- the library after a fetch with this answer: as before where there was no memory
abbrev pub after_fetch : {A : Type 0} → LibraryState → Result A FetchFault → LibraryState
after_fetch library (Err Memory) = library
after_fetch library answer =
    record library { calls = next_count library.calls; counts = counts_after library.counts answer }

-- it is that answer, or there was no memory for its bytes
abbrev pub Answers : Result (Vec ℕ) FetchFault → Result (List ℕ) FetchFault → Type 0
Answers result (Ok bytes) =
    MatchResult result (λ copy. copy.items ≡ bytes) (λ fault. fault ≡ Memory)
Answers result (Err fault) = result ≡ Err fault
