use Rattle.std.proofs.Common.{◌≡◌, map, take}
use Rattle.pm_logic.specs.Term.{tree_at}
use Rattle.pm_check.proofs.literals.are_same_terms.Given as goal

abbrev pub invariant-rows : goal.invariant-rows
invariant-rows l = map (tree_at l.terms) (take l.i l.a) ≡ map (tree_at l.terms) (take l.i l.b)
