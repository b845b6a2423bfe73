use Rattle.std.proofs.Common.{◌≡◌, length, map}
use Rattle.std.specs.List.{All}
use Rattle.pm_logic.specs.View.{HasRows, clause_of}
use Rattle.pm_report.specs.Sample.{edge_clauses}
use Rattle.pm_report.proofs.chain.edge_clauses.Given as goal

abbrev pub invariant-loop-i : goal.invariant-loop-i
invariant-loop-i l =
    (map (clause_of l.terms) l.clauses.items ≡ edge_clauses l.i) × All (λ clause. All (HasRows (length l.terms)) clause.literals.items) l.clauses.items
