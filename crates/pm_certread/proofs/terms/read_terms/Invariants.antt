use Rattle.std.proofs.Common.{◌≡◌, ◌+◌, ◌≤◌, ℕ, length}
use Rattle.pm_certread.specs.Reading.{Head, no_terms, terms}
use Rattle.pm_certread.specs.Inside.Head.{header_of}
use Rattle.pm_certread.specs.Inside.Progress.{Continues}
use Rattle.pm_certread.specs.Inside.Terms.{AreRows, lines_of}
use Rattle.pm_certread.proofs.terms.read_terms.Given as goal

abbrev pub invariant-terms : goal.invariant-terms
invariant-terms l =
    AreRows l.given
    × ((line : ℕ)
    → let head : Head = record { header = header_of l.header; line = line } in
    Continues l.problem (terms head no_terms) l.fn.lines (terms head (lines_of l.given)) l.lines)
    × (length l.given.rows.items ≤ l.header.terms)
    × (l.lines.taken ≡ l.fn.lines.taken + length l.given.rows.items)

abbrev pub decreases-terms : goal.decreases-terms
decreases-terms l = length l.lines.rest.now
