-- The law of code.
use Rattle.std.specs.Prelude.{◌≡◌, ℕ, ◌<◌, List, All, Some, length, slice_get}
use Rattle.pm_logic.specs.Problem.{Literal, Clause, Problem}
use Rattle.pm_compile.specs.declared.instr.Instr.{Instr}
use Rattle.pm_compile.specs.Instructions.{Instruction, HasRowBelow}
use Rattle.pm_compile.specs.Scheme.{body_code, start_code, extension_code}
use Rattle.pm_compile.specs.Code.{ClauseCode, IsCodeOf, body_at, start_at, extensions_at, extension_at, instructions}

-- these instructions of the code say those of the scheme, and their rows are those of the problem
pub record Says (problem : Problem) (instrs : List Instr) (code : List Instruction) : Type 0 where
  pub says : instructions problem.terms instrs ≡ code
  pub rows : All (HasRowBelow (length problem.terms)) instrs

-- the code of the clause of this index is there, and is what the scheme says
pub record FollowsScheme (problem : Problem) (code : List ClauseCode) (c : ℕ)
    (clause : Clause) : Type 0 where
  pub within : c < length code
  pub body : Says problem (body_at code c) (body_code clause.literals)
  pub start : Says problem (start_at code c) (start_code c)
  pub count : length (extensions_at code c) ≡ length clause.literals
  pub extension :
      (j : ℕ) (literal : Literal) → slice_get clause.literals j ≡ Some literal
      → Says problem (extension_at code c j) (extension_code c j literal)

-- the code of a problem follows the scheme
abbrev pub CodeFollowsScheme : Type 0
CodeFollowsScheme =
    (problem : Problem) (code : List ClauseCode) → IsCodeOf problem code
    → (c : ℕ) (clause : Clause)
    → slice_get problem.clauses c ≡ Some clause → FollowsScheme problem code c clause
