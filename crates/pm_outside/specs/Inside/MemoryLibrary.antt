-- How the fields of a library in memory stand for what its callers see.
use Rattle.std.specs.Prelude.{refl, ℕ, List, map}
use Rattle.std.specs.Ordering.{nat_cmp}
use Rattle.std.specs.FinMap as map
use Rattle.std.specs.FinSet as set
use Rattle.std.specs.declared.string.String.{String}
use Rattle.std.specs.String.{string_bytes}
use Rattle.std.specs.Global.{Vec, Global}
use Rattle.std.specs.Coded.{Coded, code_by, coded×, coded_list, coded_ℕ}
use Rattle.pm_outside.specs.MemoryLibrary.{LibraryState}
use Rattle.pm_outside.specs.Outside.{Files}

-- a library is stored as the tuple of its fields
abbrev pub library_code : Coded LibraryState
library_code =
    code_by ((Files × set.FinSet nat_cmp) × (ℕ × (ℕ × (ℕ × ℕ))))
    (coded× (coded× (map.code (coded_list coded_ℕ) (coded_list coded_ℕ)) (set.code coded_ℕ))
    (coded× coded_ℕ (coded× coded_ℕ (coded× coded_ℕ coded_ℕ))))
    (λ s. ((s.files, s.failing), (s.calls, (s.counts.faults, (s.counts.misses, s.counts.longs)))))
    (λ t. record {
      files = t.0.0;
      failing = t.0.1;
      calls = t.1.0;
      counts = record { faults = t.1.1.0; misses = t.1.1.1.0; longs = t.1.1.1.1 };
    })
    (λ _. refl)

-- the files that these names and contents make
abbrev pub files_of : List (String Global × Vec ℕ) → Files
files_of stored = map.from_entries (map (λ file. (string_bytes file.0, file.1.items)) stored)
