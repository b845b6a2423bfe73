use Rattle.std.proofs.Common.{◌≡◌, ℕ, length, take}
use Rattle.std.specs.List.{list_any}
use Rattle.pm_report.specs.Inside.Marks.{has_mark, is_row_among}
use Rattle.pm_report.proofs.terms.mark_arguments.Given as goal

abbrev pub invariant-loop-node : goal.invariant-loop-node
invariant-loop-node l =
    (length l.marks.items ≡ length l.tableau.terms)
    × ((row : ℕ) → has_mark l.marks.items row ≡ list_any (λ node. is_row_among row node.literal.args.items) (take l.node-index l.node-items))
