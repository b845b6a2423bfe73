-- A sink that is held in memory, as its callers see it.
use Rattle.std.specs.Prelude.{ℕ, ◌-◌, min, Bool, ◌||◌, List, [], ◌++◌, length, take, Option, None, Some, is_some, if◌then◌else◌, nat_lt}
use Rattle.std.specs.Ordering.{nat_cmp}
use Rattle.std.specs.FinMap as map
use Rattle.pm_outside.specs.Counts.{next_count}

-- the bytes that it has got, the room that is left, how much each failing put takes at most by the
-- number of that put, the number of the next put, and the count of faults
pub record SinkState : Type 0 where
  pub written : List ℕ
  pub room : ℕ
  pub failing : map.FinMap nat_cmp ℕ
  pub calls : ℕ
  pub faults : ℕ

-- no byte and no failing put, and each count is 0
abbrev pub empty_sink : ℕ → SinkState
empty_sink room = record { written = []; room = room; failing = map.empty; calls = 0; faults = 0 }

-- the least of the limit, where there is one, and the number
abbrev pub limited : Option ℕ → ℕ → ℕ
limited None n = n
limited (Some limit) n = min limit n

-- how many bytes of this piece the next put takes
abbrev pub taken_of : SinkState → List ℕ → ℕ
taken_of sink piece = limited (map.get sink.failing sink.calls) (min (length piece) sink.room)

-- the next put fails by its number, or since this piece is longer than the room
abbrev pub fails : SinkState → List ℕ → Bool
fails sink piece = is_some (map.get sink.failing sink.calls) || nat_lt sink.room (length piece)

-- the sink after it has been given this piece
abbrev pub after_put : SinkState → List ℕ → SinkState
after_put sink piece = record sink {
  written = sink.written ++ take (taken_of sink piece) piece;
  room = sink.room - taken_of sink piece;
  calls = next_count sink.calls;
  faults = if fails sink piece then next_count sink.faults else sink.faults;
}
