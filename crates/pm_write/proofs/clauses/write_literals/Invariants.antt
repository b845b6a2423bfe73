use Rattle.std.proofs.Common.{◌≡◌, ◌++◌, codes, take}
use Rattle.std.specs.List.{flat_map}
use Rattle.pm_logic.specs.View.{literal_of}
use Rattle.pm_write.specs.Text.{literal_text}
use Rattle.pm_write.proofs.clauses.write_literals.Given as goal

-- the literals so far are written
abbrev pub invariant-loop-literal : goal.invariant-loop-literal
invariant-loop-literal l =
    l.into.items ≡ l.initial.into.items ++ flat_map (λ other. codes " | " ++ literal_text l.problem.symbols (literal_of l.problem.terms other)) (take l.literal-index l.others)
