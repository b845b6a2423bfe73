-- The code of a problem follows the scheme.
use Rattle.std.proofs.Common.{◌≡◌, ℕ, zero, suc, ◌+◌, ◌<◌, List, [], ◌∷◌, Some, length, get_or, slice_get, refl, sym, ◌∙◌, ap, arith, add-zero}
use Rattle.std.proofs.lemmas.List.{length-map, get_or-map}
use Rattle.std.proofs.lemmas.Option.{slice_get_within, slice_get-get_or, same_Some}
use Rattle.pm_logic.specs.Problem.{Literal}
use Rattle.pm_compile.specs.Instructions.{Instruction}
use Rattle.pm_compile.specs.Scheme.{extension_code, extension_codes_from}
use Rattle.pm_compile.specs.Code.{ClauseCode, IsClauseCode, HasRowsBelow, no_code, clause_code_at, instructions}
use Rattle.pm_compile.specs.Laws.{CodeFollowsScheme}

length-extension_codes_from : (c j : ℕ) (literals : List Literal) → length (extension_codes_from c j literals) ≡ length literals
length-extension_codes_from c j [] = refl
length-extension_codes_from c j (literal ∷ literals) = ap suc (length-extension_codes_from c (j + 1) literals)

-- counted from the next number on
pub one_further : (j k : ℕ) → j + 1 + k ≡ j + suc k
one_further j k = omega arith

-- the extension by a literal of this index
extension_codes-at : (c j : ℕ) (literals : List Literal) (k : ℕ) (literal : Literal) → slice_get literals k ≡ Some literal
    → get_or (extension_codes_from c j literals) k [] ≡ extension_code c (j + k) literal
extension_codes-at c j [] k literal is = cc
extension_codes-at c j (l ∷ ls) zero literal is =
    ap (extension_code c j) (same_Some l literal is) ∙ ap (λ n. extension_code c n literal) (sym (add-zero j))
extension_codes-at c j (l ∷ ls) (suc k) literal is =
    extension_codes-at c (j + 1) ls k literal is ∙ ap (λ n. extension_code c n literal) (one_further j k)

pub code_follows : CodeFollowsScheme
code_follows problem code is c clause stands =
    let within : c < length code = omega (arith, slice_get_within problem.clauses c clause stands, is.count) in
    let its : ClauseCode = clause_code_at code c in
    let follows : IsClauseCode problem.terms c clause its = is.each c clause its stands (slice_get-get_or code c no_code within) in
    let rows : HasRowsBelow (length problem.terms) its = is.rows c no_code within in
    let counted : length its.extensions ≡ length clause.literals =
    sym (length-map its.extensions (instructions problem.terms)) ∙ ap length follows.extensions ∙ length-extension_codes_from c 0 clause.literals in
    record {
      within = within;
      body = record { says = follows.body; rows = rows.body };
      start = record { says = follows.start; rows = rows.start };
      count = counted;
      extension = λ j literal here.
          let below : j < length its.extensions = omega (arith, slice_get_within clause.literals j literal here, counted) in
          let start : 0 + j ≡ j = omega arith in
          record {
            says =
                sym (get_or-map (instructions problem.terms) its.extensions j [] [] below)
                ∙ ap (λ (codes : List (List Instruction)). get_or codes j []) follows.extensions
                ∙ extension_codes-at c 0 clause.literals j literal here
                ∙ ap (λ n. extension_code c n literal) start;
            rows = rows.extensions j [] below;
          };
    }
