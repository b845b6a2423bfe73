-- A clause that is being compiled.
use Rattle.std.specs.Prelude.{◌≡◌, ℕ, ◌<◌, ◌^◌, List, ◌++◌, All, length}
use Rattle.pm_logic.specs.declared.problem.Literal.{Literal}
use Rattle.pm_logic.specs.Problem as problem
use Rattle.pm_logic.specs.Problem.{Symbol, Problem, IsLiteralOver}
use Rattle.pm_logic.specs.Term.{Term}
use Rattle.pm_logic.specs.View.{HasRows, literal_of}
use Rattle.pm_compile.specs.declared.instr.Instr.{Instr}
use Rattle.pm_compile.specs.Scheme.{extension_codes}
use Rattle.pm_compile.specs.declared.code.Span.{Span}
use Rattle.pm_compile.specs.declared.code.ClauseSpans.{ClauseSpans}
use Rattle.pm_compile.specs.Inside.Spans.{IsSpanIn, ArePartsOf, IsCompiled}

-- the literal's rows are rows of the table, and it is over the symbols, with numbers of 32 bits for
-- its variables
abbrev pub IsOver : List Symbol → List Term → Literal → Type 0
IsOver symbols terms literal = HasRows (length terms) literal
    × ((vars : ℕ) × (vars < 2 ^ 32) × IsLiteralOver symbols vars (literal_of terms literal))

-- the list has more at its end
abbrev pub Grows : {A : Type 0} → List A → List A → Type 0
Grows {A} old new = (more : List A) × (new ≡ old ++ more)

-- the extensions by these literals of the clause were added
pub record AddsExtensions (terms : List Term) (c : ℕ) (literals : List problem.Literal)
    (instrs : List Instr) (extensions : List Span)
    (instrs' : List Instr) (extensions' : List Span) : Type 0 where
  pub code : Grows instrs instrs'
  pub spans : List Span
  pub grown : extensions' ≡ extensions ++ spans
  pub parts : ArePartsOf terms instrs' spans (extension_codes c literals)

-- a clause's code was appended, and its spans are these
pub record AddsClause (problem : Problem) (c : ℕ) (instrs : List Instr) (extensions : List Span)
    (instrs' : List Instr) (extensions' : List Span) (spans : ClauseSpans) : Type 0 where
  pub code : Grows instrs instrs'
  pub parts : Grows extensions extensions'
  pub compiled : IsCompiled problem instrs' extensions' c spans
  pub laid :
      All (IsSpanIn (length instrs)) extensions → All (IsSpanIn (length instrs')) extensions'
