use Rattle.std.proofs.Common.{◌≡◌, length, map, take}
use Rattle.std.specs.List.{All}
use Rattle.pm_logic.specs.View.{HasRows, clause_of}
use Rattle.pm_lift.specs.Inside.Example.{described_clause, AreFew}
use Rattle.pm_lift.proofs.lift.tests.clauses.Given as goal

abbrev pub invariant-lists : goal.invariant-lists
invariant-lists g l =
    (map (clause_of l.terms) l.clauses.items ≡ map (λ atoms. described_clause l.terms atoms.now) (take l.atoms-index l.lists))
    × All (λ clause. All (HasRows (length l.terms)) clause.literals.items) l.clauses.items
    × All (λ atoms. AreFew atoms.now) (take l.atoms-index l.lists)
