use Rattle.std.proofs.Common.{◌≡◌, ℕ, length}
use Rattle.pm_certread.specs.Reading.{Head, no_nodes, nodes}
use Rattle.pm_certread.specs.Inside.Head.{header_of}
use Rattle.pm_certread.specs.Inside.Progress.{Continues}
use Rattle.pm_certread.specs.Inside.Terms.{lines_of}
use Rattle.pm_certread.specs.Inside.Nodes.{IsDeepest, nodes_of}
use Rattle.pm_certread.proofs.nodes.read_nodes.Given as goal

abbrev pub invariant-nodes : goal.invariant-nodes
invariant-nodes l =
    (l.all.tableau.terms ≡ l.fn.given.table)
    × IsDeepest l.all
    × ((line : ℕ)
    → let head : Head = record { header = header_of l.header; line = line } in
    Continues l.problem (nodes head (lines_of l.fn.given) (no_nodes l.root)) l.fn.lines
    (nodes head (lines_of l.fn.given) (nodes_of l.all)) l.lines)

abbrev pub decreases-nodes : goal.decreases-nodes
decreases-nodes l = length l.lines.rest.now
