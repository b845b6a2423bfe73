-- How the rows that a book hands out stand for intervals: their ends are places among its cuts.
use Rattle.std.specs.Prelude.{ℕ, ◌<◌, List, [], Option, Some, None, slice_index_or}
use Rattle.pm_choice.specs.declared.Bound.{Bound}
use Rattle.pm_choice.specs.declared.Bound.TheVariants.{At, End}
use Rattle.pm_book.specs.declared.row.BookRow.{BookRow}
use Rattle.pm_book.specs.Rows.{Row}

-- the lower end of a row, from its place among the cuts
abbrev pub lower : List (List ℕ) → Option ℕ → List ℕ
lower cuts None = []
lower cuts (Some place) = slice_index_or cuts place []

-- the upper end of a row
abbrev pub upper : List (List ℕ) → Option ℕ → Bound
upper cuts None = End
upper cuts (Some place) = At (slice_index_or cuts place [])

abbrev pub row_seen : List (List ℕ) → BookRow → Row
row_seen cuts row = record {
  number = row.number;
  from = lower cuts row.from;
  to = upper cuts row.to;
  state = row.state;
}

-- a place is one of so many cuts, where there is one
abbrev pub IsCutPlace : ℕ → Option ℕ → Type 0
IsCutPlace count None = Unit {0}
IsCutPlace count (Some place) = place < count

pub record HasPlaces (count : ℕ) (row : BookRow) : Type 0 where
  pub from : IsCutPlace count row.from
  pub to : IsCutPlace count row.to
