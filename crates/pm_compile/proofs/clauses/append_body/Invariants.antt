use Rattle.std.proofs.Common.{map, take}
use Rattle.std.specs.List.{flat_map}
use Rattle.pm_logic.specs.View.{literal_of}
use Rattle.pm_compile.specs.Scheme.{goal_code}
use Rattle.pm_compile.specs.Inside.Appended.{Appends}
use Rattle.pm_compile.proofs.clauses.append_body.Given as goal

-- the literals so far have their children appended
abbrev pub invariant-literals : goal.invariant-literals
invariant-literals l =
    Appends l.source.problem.now.terms l.fn.instrs.items l.instrs.items
    (flat_map goal_code (map (literal_of l.source.problem.now.terms) (take l.literal-index l.literals)))
