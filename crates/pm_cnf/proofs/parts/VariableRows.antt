-- The rows of variables in a growing list of terms.
use Rattle.std.proofs.Common.{◌≡◌, ℕ, ◌<◌, ◌≤◌, ◌⊎◌, List, [], ◌∷◌, ◌++◌, length, get_or, Some, refl, sym, ap, subst, ◌∙◌, arith, inl, inr, slice_get}
use Rattle.std.specs.Prelude.{Contains}
use Rattle.std.proofs.lemmas.List.{length_push}
use Rattle.std.proofs.lemmas.Option.{slice_get_within, slice_get-get_or}
use Rattle.pm_logic.specs.Term.{Term, Terms, var, app}
use Rattle.pm_logic.specs.Table.{variable_count}
use Rattle.pm_logic.proofs.ListLemmas.{Contains-from, Contains-push, slice_get-push, slice_get-last, below_or_last}
use Rattle.pm_logic.proofs.TableLemmas.{variable_count-push}
use Rattle.pm_logic.specs.Lists.{Gathers}
use Rattle.pm_logic.proofs.Gathering.{Extends, slice_get-extends}
use Rattle.pm_cnf.specs.Inside.Parts.{AreVariables}

pub known_variable : (terms : List Term) (rows : List ℕ) (n : ℕ) → AreVariables terms rows → n < length rows → Contains terms (var n)
known_variable terms rows n are lt = Contains-from terms (get_or rows n 0) (var n) (are.stand n (get_or rows n 0) (slice_get-get_or rows n 0 lt))

-- a variable that is known gathers nothing
pub gathers_known : (table terms : List Term) (rows : List ℕ) (n : ℕ) → table ≡ terms → AreVariables table rows → n < length rows → Gathers terms (var n ∷ []) terms
gathers_known table terms rows n same are lt = inl (subst (λ ts. Contains ts (var n)) same (known_variable table rows n are lt), refl)

variable_absent : (terms : List Term) (rows : List ℕ) (n : ℕ) → AreVariables terms rows → variable_count terms ≤ n → ¬ Contains terms (var n)
variable_absent terms rows n are le has = absurd (omega (arith, are.below n has))

-- the next variable is added
pub gathers_next : (table terms new : List Term) (rows : List ℕ) (n : ℕ) → table ≡ terms → AreVariables table rows → n ≤ variable_count terms → length rows ≤ n
    → new ≡ table ++ var (variable_count table) ∷ [] → Gathers terms (var n ∷ []) new
gathers_next table terms new rows n same are le beyond grown =
    let is : variable_count table ≡ n = omega (arith, are.count, ap variable_count same) in
    subst (λ ts. Gathers ts (var n ∷ []) new) same (inr (variable_absent table rows n are (omega (arith, is)), sym (grown ∙ ap (λ m. table ++ var m ∷ []) is)))

pub counts_next : (table terms new : List Term) (n : ℕ) → table ≡ terms → n ≤ variable_count terms → new ≡ table ++ var (variable_count table) ∷ [] → n < variable_count new
counts_next table terms new n same le grown = omega (arith, ap variable_count grown, variable_count-push table (var (variable_count table)), le, ap variable_count same)

next_stands : (terms : List Term) (rows : List ℕ) (t : Term) (m : ℕ) → t ≡ var (length rows) → ((n row : ℕ) → slice_get rows n ≡ Some row → slice_get terms row ≡ Some (var n))
    → (n row : ℕ) → (n < length rows) ⊎ (n ≡ length rows) → slice_get (rows ++ length terms ∷ []) n ≡ Some row → slice_get (terms ++ t ∷ []) row ≡ Some (var n)
next_stands terms rows t m is stand n row (inl lt) e =
    slice_get-extends terms (terms ++ t ∷ []) (t ∷ [], refl) row (var n) (stand n row (sym (slice_get-push rows (length terms) n lt) ∙ e))
next_stands terms rows t m is stand n row (inr last) e =
    let here : Some (length terms) ≡ Some row = sym (slice_get-last rows (length terms)) ∙ ap (slice_get (rows ++ length terms ∷ [])) (sym last) ∙ e in
    let same : length terms ≡ row = cc in
    ap (slice_get (terms ++ t ∷ [])) (sym same) ∙ slice_get-last terms t ∙ ap Some is ∙ ap (λ k. Some (var k)) (sym last)

pub AreVariables-next : (terms new : List Term) (rows more : List ℕ) (row : ℕ) → AreVariables terms rows → new ≡ terms ++ var (variable_count terms) ∷ [] → more ≡ rows ++ row ∷ [] → row ≡ length terms → AreVariables new more
AreVariables-next terms new rows more row are grown pushed at_end =
    let t = var (variable_count terms) in
    let pushed : more ≡ rows ++ length terms ∷ [] = pushed ∙ ap (λ r. rows ++ r ∷ []) at_end in
    let all : AreVariables (terms ++ t ∷ []) (rows ++ length terms ∷ []) = record {
      count = omega (arith, length_push rows (length terms), variable_count-push terms t, are.count);
      stand = λ n row e. next_stands terms rows t 0 (ap var (sym are.count)) are.stand n row (below_or_last rows (length terms) n (slice_get_within (rows ++ length terms ∷ []) n row e)) e;
      below = λ n has. elim (Contains-push terms t (var n) has) [
        | inl old ↦ omega (arith, are.below n old, variable_count-push terms t)
        | inr same ↦ let is : variable_count terms ≡ n = cc in omega (arith, is, variable_count-push terms t)
      ];
    } in
    subst (λ ts. AreVariables ts more) (sym grown) (subst (AreVariables (terms ++ t ∷ [])) (sym pushed) all)

-- an application more leaves the variables as they are
pub AreVariables-application : (terms new : List Term) (rows : List ℕ) (f : ℕ) (args : Terms) → AreVariables terms rows
    → ((new ≡ terms) × Contains terms (app f args)) ⊎ ((new ≡ terms ++ app f args ∷ []) × (¬ Contains terms (app f args))) → AreVariables new rows
AreVariables-application terms new rows f args are (inl same) = subst (λ ts. AreVariables ts rows) (sym same.0) are
AreVariables-application terms new rows f args are (inr more) =
    let count : variable_count (terms ++ app f args ∷ []) ≡ variable_count terms = omega (arith, variable_count-push terms (app f args)) in
    let all : AreVariables (terms ++ app f args ∷ []) rows = record {
      count = are.count ∙ sym count;
      stand = λ n row e. slice_get-extends terms (terms ++ app f args ∷ []) (app f args ∷ [], refl) row (var n) (are.stand n row e);
      below = λ n has. elim (Contains-push terms (app f args) (var n) has) [
        | inl old ↦ omega (arith, are.below n old, count)
        | inr same ↦ cc
      ];
    } in
    subst (λ ts. AreVariables ts rows) (sym more.0) all

variable_count-append : (terms more : List Term) → variable_count terms ≤ variable_count (terms ++ more)
variable_count-append [] more = omega arith
variable_count-append (var n ∷ terms) more = omega (arith, variable_count-append terms more)
variable_count-append (app f args ∷ terms) more = variable_count-append terms more

-- there are as many variables as before at least
pub variable_count-extends : (terms new : List Term) → Extends terms new → variable_count terms ≤ variable_count new
variable_count-extends terms new h = omega (arith, ap variable_count h.1, variable_count-append terms h.0)
