-- What a put does to a sink that is held in memory.
use Rattle.std.proofs.Common.{ℕ}
use Rattle.std.specs.Ordering.{nat_cmp}
use Rattle.std.specs.FinMap.{FinMap}
use Rattle.pm_outside.specs.MemorySink.{SinkState}

-- a sink with other failing puts
abbrev pub with_failing : SinkState → FinMap nat_cmp ℕ → SinkState
with_failing sink failing = record sink { failing = failing }
