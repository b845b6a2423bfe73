-- Instructions that can be written.
use Rattle.std.specs.Prelude.{ℕ, ◌<◌, List, length}
use Rattle.pm_logic.specs.Problem.{Symbol, IsTermOver}
use Rattle.pm_logic.specs.Term.{Term}
use Rattle.pm_compile.specs.declared.instr.Instr.{Instr}
use Rattle.pm_compile.specs.Instructions.{Instruction, MEET, GROUND, MAKE, CONST, GOAL, instruction_of, HasRowBelow}

-- what the instruction names is one of the symbols, or a term over them
abbrev pub IsInstructionOver : List Symbol → Instruction → Type 0
IsInstructionOver symbols (MEET f n) = f < length symbols
IsInstructionOver symbols (MAKE f n) = f < length symbols
IsInstructionOver symbols (GOAL positive p n) = p < length symbols
IsInstructionOver symbols (GROUND t) = (vars : ℕ) × IsTermOver symbols vars t
IsInstructionOver symbols (CONST t) = (vars : ℕ) × IsTermOver symbols vars t
IsInstructionOver symbols instruction = Unit {0}

abbrev pub IsWritable : List Symbol → List Term → Instr → Type 0
IsWritable symbols terms instr = HasRowBelow (length terms) instr
    × IsInstructionOver symbols (instruction_of terms instr)
