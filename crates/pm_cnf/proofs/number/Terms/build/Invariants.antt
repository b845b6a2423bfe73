use Rattle.pm_cnf.proofs.parts.Building.{Built}
use Rattle.pm_cnf.proofs.number.Terms.build.Given as goal

abbrev pub invariant-parts : goal.invariant-parts
invariant-parts l = Built l.fn.self l.parts l.part-iterator.iter.rest.now l.self-inside.table l.self-inside.variables.items l.rows.items
