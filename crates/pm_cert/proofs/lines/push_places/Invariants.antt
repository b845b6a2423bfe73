use Rattle.std.proofs.Common.{◌≡◌, ◌++◌, ℕ, List, Some, map, take}
use Rattle.std.specs.Prelude.{slice_get}
use Rattle.pm_cert.specs.Inside.Lines.{numbers_text}
use Rattle.pm_cert.proofs.lines.push_places.Given as goal

abbrev pub invariant-loop-row : goal.invariant-loop-row
invariant-loop-row l = (numbers : List ℕ)
    × (map (slice_get l.list.keys) numbers ≡ map Some (take l.row-index l.rows))
    × (l.text.items ≡ l.fn.text.items ++ numbers_text numbers)
