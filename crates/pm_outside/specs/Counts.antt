-- How the counts of a library and of a sink rise.
use Rattle.std.specs.Prelude.{ℕ, ◌+◌, ◌-◌, ◌^◌, min, Result, Ok, Err}
use Rattle.pm_outside.specs.declared.counts.Counts.{Counts}
use Rattle.pm_outside.specs.declared.library.FetchFault.{FetchFault}
use Rattle.pm_outside.specs.declared.library.FetchFault.TheVariants.{Missing, TooLong, Failed, Memory}

-- one more, or the last value of a `u64` again
abbrev pub next_count : ℕ → ℕ
next_count count = min (count + 1) (2 ^ 64 - 1)

abbrev pub no_counts : Counts
no_counts = record { faults = 0; misses = 0; longs = 0 }

-- the counts after a fetch with this answer: its cause is counted, and want of memory is not
abbrev pub counts_after : {A : Type 0} → Counts → Result A FetchFault → Counts
counts_after counts (Ok bytes) = counts
counts_after counts (Err Missing) = record counts { misses = next_count counts.misses }
counts_after counts (Err TooLong) = record counts { longs = next_count counts.longs }
counts_after counts (Err Failed) = record counts { faults = next_count counts.faults }
counts_after counts (Err Memory) = counts
