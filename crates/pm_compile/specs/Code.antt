-- The code of clauses and of problems.
use Rattle.std.specs.Prelude.{◌≡◌, ℕ, List, [], All, Some, length, map, slice_get, slice_index_or}
use Rattle.pm_logic.specs.Term.{Term}
use Rattle.pm_logic.specs.Problem.{Clause, Problem}
use Rattle.pm_compile.specs.declared.instr.Instr.{Instr}
use Rattle.pm_compile.specs.Instructions.{Instruction, instruction_of, HasRowBelow}
use Rattle.pm_compile.specs.Scheme.{body_code, start_code, extension_codes}

-- the code of a clause: of its body, of its start, and of the extension by each literal
pub record ClauseCode : Type 0 where
  pub body : List Instr
  pub start : List Instr
  pub extensions : List (List Instr)

-- what a list of instructions of the code says
abbrev pub instructions : List Term → List Instr → List Instruction
instructions terms instrs = map (instruction_of terms) instrs

-- the code is that of the clause of this index
pub record IsClauseCode (terms : List Term) (c : ℕ) (clause : Clause)
    (code : ClauseCode) : Type 0 where
  pub body : instructions terms code.body ≡ body_code clause.literals
  pub start : instructions terms code.start ≡ start_code c
  pub extensions : map (instructions terms) code.extensions ≡ extension_codes c clause.literals

-- each row of the code is one of so many
pub record HasRowsBelow (count : ℕ) (code : ClauseCode) : Type 0 where
  pub body : All (HasRowBelow count) code.body
  pub start : All (HasRowBelow count) code.start
  pub extensions : All (All (HasRowBelow count)) code.extensions

-- the code has the code of each clause of the problem
pub record IsCodeOf (problem : Problem) (code : List ClauseCode) : Type 0 where
  pub count : length code ≡ length problem.clauses
  pub each :
      (c : ℕ) (clause : Clause) (its : ClauseCode)
      → slice_get problem.clauses c ≡ Some clause
      → slice_get code c ≡ Some its → IsClauseCode problem.terms c clause its
  pub rows : All (HasRowsBelow (length problem.terms)) code

-- what a clause that isn't there would have
abbrev pub no_code : ClauseCode
no_code = record { body = []; start = []; extensions = [] }

-- the code of the clause of this index
abbrev pub clause_code_at : List ClauseCode → ℕ → ClauseCode
clause_code_at code c = slice_index_or code c no_code

-- the body of the clause of this index
abbrev pub body_at : List ClauseCode → ℕ → List Instr
body_at code c = (clause_code_at code c).body

-- the start with the clause of this index
abbrev pub start_at : List ClauseCode → ℕ → List Instr
start_at code c = (clause_code_at code c).start

-- the extensions by the literals of the clause of this index
abbrev pub extensions_at : List ClauseCode → ℕ → List (List Instr)
extensions_at code c = (clause_code_at code c).extensions

-- the code of the extension by a clause's literal of this index
abbrev pub extension_at : List ClauseCode → ℕ → ℕ → List Instr
extension_at code c j = slice_index_or (extensions_at code c) j []
