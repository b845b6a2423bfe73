use Rattle.std.proofs.Common.{◌≡◌, ◌++◌, take}
use Rattle.std.specs.List.{flat_map}
use Rattle.pm_compile.specs.Instructions.{instruction_of}
use Rattle.pm_compile.specs.Listing.{line, instruction_text}
use Rattle.pm_compile.proofs.writing.write_lines.Given as goal

-- the instructions so far have their lines
abbrev pub invariant-instrs : goal.invariant-instrs
invariant-instrs l =
    l.into.items ≡ l.fn.into.items ++ flat_map (λ i. line (instruction_text l.problem.symbols (instruction_of l.problem.terms i))) (take l.instr-index l.instrs)
