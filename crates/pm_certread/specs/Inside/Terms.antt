-- The words of term lines and of the root's line, and what the code reads of them.
use Rattle.std.specs.Prelude.{◌≡◌, ◌≢◌, ◌<◌, ℕ, List, [], ◌∷◌, Option, None, Some, All, codes, decimal, length, map, slice_index_or, string_bytes}
use Rattle.pm_logic.specs.declared.symbols.Kind.TheVariants.{Function}
use Rattle.pm_logic.specs.Term.{tree_at}
use Rattle.pm_logic.specs.Problem.{Symbol, IsPrintable}
use Rattle.pm_logic.specs.Word.{written_word}
use Rattle.pm_certread.specs.declared.error.CertKind.{CertKind}
use Rattle.pm_certread.specs.declared.error.CertError.{CertError}
use Rattle.pm_certread.specs.declared.error.CertError.TheVariants.{At, Memory}
use Rattle.pm_certread.specs.declared.fault.Fault.{Fault}
use Rattle.pm_certread.specs.declared.fault.Fault.TheVariants as faults
use Rattle.pm_certread.specs.declared.application.Application.{Application}
use Rattle.pm_certread.specs.declared.terms.TermRows.{TermRows}
use Rattle.pm_certread.specs.Forms.{IsNumber, IsApplication, IsRoot}
use Rattle.pm_certread.specs.Reading.{TermLines}

-- what is wrong with a line; of want of memory nothing is said
abbrev pub IsFault : (CertKind → Type 0) → Fault → Type 0
IsFault offends (faults.Kind kind) = offends kind
IsFault offends faults.Memory = Unit {0}

-- the same as the refusal of the line of this number
abbrev pub error_at : ℕ → Fault → CertError
error_at line (faults.Kind kind) = At line kind
error_at line faults.Memory = Memory

abbrev pub function : List ℕ → ℕ → Symbol
function text arity = record { text = text; arity = arity; kind = Function }

abbrev pub application_words : List ℕ → List ℕ → List (List ℕ)
application_words text numbers = written_word text ∷ map decimal numbers

abbrev pub ReadsApplication : List (List ℕ) → Option Application → Type 0
ReadsApplication words None =
    (text numbers : List ℕ) → IsPrintable text → All IsNumber numbers
    → words ≢ application_words text numbers
ReadsApplication words (Some a) =
    IsPrintable (string_bytes a.text) × All IsNumber a.numbers.items
    × (words ≡ application_words (string_bytes a.text) a.numbers.items)

abbrev pub IsApplicationLine : List ℕ → Option Application → Type 0
IsApplicationLine raw None =
    (symbol : Symbol) (numbers : List ℕ) → ¬ IsApplication raw symbol numbers
IsApplicationLine raw (Some a) =
    IsApplication raw (function (string_bytes a.text) (length a.numbers.items)) a.numbers.items

-- the terms of rows, one for each, and the terms of the table
abbrev pub lines_of : TermRows → TermLines
lines_of given =
    record { each = map (tree_at given.table) given.rows.items; table = given.table }

abbrev pub AreRows : TermRows → Type 0
AreRows given = All (λ row. row < length given.table) given.rows.items

-- the rows of these numbers
abbrev pub rows_of : List ℕ → List ℕ → List ℕ
rows_of rows numbers = map (λ number. slice_index_or rows number 0) numbers

abbrev pub ReadsRoot : List (List ℕ) → Option ℕ → Type 0
ReadsRoot words None =
    (clause : ℕ) → IsNumber clause → words ≢ codes "root" ∷ decimal clause ∷ []
ReadsRoot words (Some clause) =
    IsNumber clause × (words ≡ codes "root" ∷ decimal clause ∷ [])

abbrev pub IsRootLine : List ℕ → Option ℕ → Type 0
IsRootLine raw None = (clause : ℕ) → ¬ IsRoot raw clause
IsRootLine raw (Some clause) = IsRoot raw clause
