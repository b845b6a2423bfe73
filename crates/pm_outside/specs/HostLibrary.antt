-- The library of the host, as its callers see it.
use Rattle.std.specs.Prelude.{None}
use Rattle.pm_outside.specs.declared.counts.Counts.{Counts}
use Rattle.pm_outside.specs.Outside.{LibraryView}

-- its counts; it tells no files
abbrev pub host_view : Counts → LibraryView
host_view counts =
    record {
      faults = counts.faults;
      misses = counts.misses;
      longs = counts.longs;
      told = None;
    }
