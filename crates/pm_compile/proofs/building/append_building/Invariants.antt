use Rattle.std.proofs.Common.{All, map}
use Rattle.pm_logic.specs.Term.{as_terms, tree_at}
use Rattle.pm_compile.specs.Scheme.{building_code_among}
use Rattle.pm_compile.specs.Inside.Building.{ComesToBuilt, IsPlaceOver, work}
use Rattle.pm_compile.proofs.building.append_building.Given as goal

-- with what is pending the code is whole
abbrev pub invariant-places : goal.invariant-places
invariant-places l = record {
  comes : ComesToBuilt l.source.problem.now.terms l.fn.instrs.items l.instrs.items l.pending.items
      (building_code_among (as_terms (map (tree_at l.source.problem.now.terms) l.args)));
  places : All (IsPlaceOver l.source.problem.now.symbols l.source.problem.now.terms) l.pending.items;
}

abbrev pub decreases-places : goal.decreases-places
decreases-places l = work l.source.problem.now.terms l.pending.items
