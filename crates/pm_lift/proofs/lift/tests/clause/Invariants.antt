use Rattle.std.proofs.Common.{◌≡◌, ◌≤◌, length, map, take}
use Rattle.std.specs.List.{All}
use Rattle.pm_logic.specs.View.{literal_of, HasRows}
use Rattle.pm_lift.specs.Inside.Example.{described}
use Rattle.pm_lift.proofs.lift.tests.clause.Given as goal

abbrev pub invariant-atoms : goal.invariant-atoms
invariant-atoms g l =
    (map (literal_of l.terms) l.literals.items ≡ map (described l.terms) (take l.atom-index l.atoms))
    × All (HasRows (length l.terms)) l.literals.items
    × All (λ atom. atom.1 ≤ 2) (take l.atom-index l.atoms)
