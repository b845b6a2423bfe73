use Rattle.std.proofs.Common.{◌≡◌, ◌++◌, length, map}
use Rattle.pm_logic.specs.Term.{as_terms, tree_at}
use Rattle.pm_write.specs.Text.{arguments_text}
use Rattle.pm_write.specs.Inside.Pending.{AreTerms, pending_text}
use Rattle.pm_write.proofs.terms.write_arguments.Given as goal

-- with what is pending the text is whole
abbrev pub invariant-loop-list : goal.invariant-loop-list
invariant-loop-list l =
    (l.into.items ++ pending_text l.problem.symbols l.problem.terms l.pending.items
    ≡ l.fn.into.items ++ arguments_text l.problem.symbols (as_terms (map (tree_at l.problem.terms) l.args)))
    × AreTerms l.problem.symbols l.problem.terms l.pending.items

-- each step writes a byte of what is pending
abbrev pub decreases-loop-list : goal.decreases-loop-list
decreases-loop-list l = length (pending_text l.problem.symbols l.problem.terms l.pending.items)
