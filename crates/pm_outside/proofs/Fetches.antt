-- A library that is held in memory, with one of its parts replaced.
use Rattle.std.specs.Ordering.{nat_cmp}
use Rattle.std.specs.FinSet.{FinSet}
use Rattle.pm_outside.specs.MemoryLibrary.{LibraryState}
use Rattle.pm_outside.specs.Outside.{Files}

abbrev pub with_files : LibraryState → Files → LibraryState
with_files library files = record library { files = files }

abbrev pub with_failing : LibraryState → FinSet nat_cmp → LibraryState
with_failing library failing = record library { failing = failing }
