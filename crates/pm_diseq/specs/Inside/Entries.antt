-- How the notes of a pool are kept: the cells of all pairs in one list, the entries, and for each
-- variable the newest entry that waits at it.
use Rattle.std.specs.Prelude.{◌≡◌, ◌≢◌, ℕ, ◌+◌, ◌<◌, ◌≤◌, List, Option, Some, None, All, AllPairs, length, map, slice_get, slice_index_or, take, drop}
use Rattle.pm_diseq.specs.declared.entries.Span.{Span}
use Rattle.pm_diseq.specs.declared.entries.Entry.{Entry}
use Rattle.pm_diseq.specs.declared.entries.Entry.TheVariants.{Keep, Wait}
use Rattle.pm_diseq.specs.Notes.{Pair, Note, Kept, Waits}

-- the pair whose lists lie there
abbrev pub pair_in : List ℕ → Span → Pair
pair_in cells span = record {
  left = take span.count (drop span.start cells);
  right = take span.count (drop (span.start + span.count) cells);
}

abbrev pub note_in : List ℕ → Entry → Note
note_in cells (Keep span) = Kept (pair_in cells span)
note_in cells (Wait span v previous) = Waits (pair_in cells span) v

abbrev pub notes_of : List ℕ → List Entry → List Note
notes_of cells log = map (note_in cells) log

abbrev pub span_in : Entry → Span
span_in (Keep span) = span
span_in (Wait span v previous) = span

-- where the lists of the entry's pair end
abbrev pub end_of_pair : Entry → ℕ
end_of_pair entry = (span_in entry).start + (span_in entry).count + (span_in entry).count

-- the variable at which the entry waits
abbrev pub variable_in : Entry → Option ℕ
variable_in (Keep span) = None
variable_in (Wait span v previous) = Some v

-- a pair that is kept later lies behind
abbrev pub LiesBefore : Entry → Entry → Type 0
LiesBefore entry (Keep span) = end_of_pair entry ≤ span.start
LiesBefore entry (Wait span v previous) = Unit {0}

-- of the variables at which entries wait, this is the newest place of one before another place
abbrev pub IsNewest : List (Option ℕ) → ℕ → ℕ → Option ℕ → Type 0
IsNewest variables end v None = (k : ℕ) → k < end → slice_get variables k ≢ Some (Some v)
IsNewest variables end v (Some place) = (place < end)
    × (slice_get variables place ≡ Some (Some v))
    × ((k : ℕ) → place < k → k < end → slice_get variables k ≢ Some (Some v))

-- the pairs lie among the cells, each behind those before it, and the newest entries are known
pub record AreHeld (cells : List ℕ) (log : List Entry)
    (newest : List (Option ℕ)) : Type 0 where
  pub within : All (λ entry. end_of_pair entry ≤ length cells) log
  pub laid : AllPairs LiesBefore log
  pub linked : (place : ℕ) (span : Span) (v : ℕ) (previous : Option ℕ)
      → slice_get log place ≡ Some (Wait span v previous)
      → IsNewest (map variable_in log) place v previous
  pub known : (v : ℕ)
      → IsNewest (map variable_in log) (length log) v (slice_index_or newest v None)
