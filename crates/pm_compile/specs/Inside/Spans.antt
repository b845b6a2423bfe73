-- How code is kept: all instructions in one list, and for each part where it begins and ends.
use Rattle.std.specs.Prelude.{◌≡◌, ℕ, ◌≤◌, List, [], ◌∷◌, All, Some, length, map, slice_get, slice_range}
use Rattle.pm_logic.specs.Term.{Term}
use Rattle.pm_logic.specs.Problem.{Clause, Problem}
use Rattle.pm_compile.specs.declared.instr.Instr.{Instr}
use Rattle.pm_compile.specs.declared.code.Span.{Span}
use Rattle.pm_compile.specs.declared.code.ClauseSpans.{ClauseSpans}
use Rattle.pm_compile.specs.Instructions.{Instruction, HasRowBelow}
use Rattle.pm_compile.specs.Code.{ClauseCode, IsClauseCode, HasRowsBelow, instructions}

-- what a span covers of a list
abbrev pub part : {A : Type 0} → List A → Span → List A
part xs span = slice_range xs span.from span.to

abbrev pub clause_code_of : List Instr → List Span → ClauseSpans → ClauseCode
clause_code_of instrs extensions spans = record {
  body = part instrs spans.body;
  start = part instrs spans.start;
  extensions = map (part instrs) (part extensions spans.extensions);
}

abbrev pub code_of : List Instr → List Span → List ClauseSpans → List ClauseCode
code_of instrs extensions clauses = map (clause_code_of instrs extensions) clauses

-- a span of a list of so many
abbrev pub IsSpanIn : ℕ → Span → Type 0
IsSpanIn count span = (span.from ≤ span.to) × (span.to ≤ count)

-- the span is that of these instructions, whose rows are rows of the terms
pub record IsPart (terms : List Term) (instrs : List Instr) (span : Span)
    (code : List Instruction) : Type 0 where
  pub within : IsSpanIn (length instrs) span
  pub says : instructions terms (part instrs span) ≡ code
  pub rows : All (HasRowBelow (length terms)) (part instrs span)

-- the spans are those of these lists of instructions
abbrev pub ArePartsOf : List Term → List Instr → List Span → List (List Instruction) → Type 0
ArePartsOf terms instrs [] [] = Unit {0}
ArePartsOf terms instrs [] (code ∷ codes) = ⊥
ArePartsOf terms instrs (span ∷ spans) [] = ⊥
ArePartsOf terms instrs (span ∷ spans) (code ∷ codes) =
    IsPart terms instrs span code × ArePartsOf terms instrs spans codes

-- a clause's spans are of so many instructions and so many extensions
pub record AreSpansIn (many extended : ℕ) (spans : ClauseSpans) : Type 0 where
  pub body : IsSpanIn many spans.body
  pub start : IsSpanIn many spans.start
  pub extensions : IsSpanIn extended spans.extensions

-- all spans are of what is kept
pub record IsLaidOut (instrs : List Instr) (extended : List Span)
    (compiled : List ClauseSpans) : Type 0 where
  pub extensions : All (IsSpanIn (length instrs)) extended
  pub clauses : All (AreSpansIn (length instrs) (length extended)) compiled

-- the spans are those of the code of the problem's clause of this index
pub record IsCompiled (problem : Problem) (instrs : List Instr) (extended : List Span) (c : ℕ)
    (its : ClauseSpans) : Type 0 where
  pub spans : AreSpansIn (length instrs) (length extended) its
  pub code :
      (clause : Clause) → slice_get problem.clauses c ≡ Some clause
      → IsClauseCode problem.terms c clause (clause_code_of instrs extended its)
  pub rows : HasRowsBelow (length problem.terms) (clause_code_of instrs extended its)

-- the spans of the first clauses are those of their code
pub record AreCompiled (problem : Problem) (instrs : List Instr) (extended : List Span)
    (compiled : List ClauseSpans) : Type 0 where
  pub extensions : All (IsSpanIn (length instrs)) extended
  pub clauses :
      (c : ℕ) (its : ClauseSpans) → slice_get compiled c ≡ Some its
      → IsCompiled problem instrs extended c its
