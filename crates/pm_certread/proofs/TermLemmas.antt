-- The terms of term lines, and the rows that the code keeps for them.
use Rattle.std.proofs.Common.{◌≡◌, ◌∙◌, ◌<◌, ◌≤◌, ◌⊎◌, inl, inr, ℕ, zero, suc, ◌+◌, List, [], ◌∷◌, ◌++◌, length, map, take, get_or, Option, Some, None, Bor, Result, Ok, Err, IfOk, decimal, string_bytes, sym, ap, refl, subst, arith}
use Rattle.std.specs.Prelude.{slice_get}
use Rattle.std.specs.List.{All}
use Rattle.std.proofs.lemmas.List.{map-append, get_or_append_left, take_more, take_all}
use Rattle.std.proofs.lemmas.List.Elements.{All-push}
use Rattle.pm_logic.specs.declared.symbols.Kind.TheVariants.{Function}
use Rattle.pm_logic.specs.Term.{Term, var, app, as_terms, tree_at}
use Rattle.pm_logic.specs.Table.{Adds, variable_count}
use Rattle.pm_logic.specs.Problem.{Symbol}
use Rattle.pm_logic.specs.Word.{written_word, written_as, written_symbol}
use Rattle.pm_certread.specs.declared.application.Application.{Application}
use Rattle.pm_certread.specs.Reading.{AddsVariable, AddsApplication}
use Rattle.pm_certread.specs.Inside.Cuts.{IsCut, bytes_of}
use Rattle.pm_certread.specs.Inside.Terms.{ReadsApplication, IsApplicationLine, application_words, rows_of}
use Rattle.pm_certread.proofs.WordLemmas.{symbol_whole, decimals_whole}
use Rattle.pm_certread.proofs.FormLemmas.{cut_is, is_cut}

-- ---- trees of rows

kept : (old more : List Term) (rows : List ℕ) → All (λ row. row < length old) rows → map (tree_at (old ++ more)) rows ≡ map (tree_at old) rows
kept old more [] within = refl
kept old more (row ∷ rows) within =
    let here : tree_at (old ++ more) row ≡ tree_at old row = get_or_append_left old more (var 0) row (within 0 0 (omega arith)) in
    let later : map (tree_at (old ++ more)) rows ≡ map (tree_at old) rows = kept old more rows (λ k d lt. within (suc k) d (omega arith)) in
    ap (λ (t : Term). t ∷ map (tree_at (old ++ more)) rows) here ∙ ap (λ (ts : List Term). tree_at old row ∷ ts) later

pub trees_kept : (old new : List Term) (rows : List ℕ) (t : Term) → ((new ≡ old) ⊎ (new ≡ old ++ t ∷ [])) → All (λ row. row < length old) rows → map (tree_at new) rows ≡ map (tree_at old) rows
trees_kept old new rows t (inl same) within = ap (λ (ts : List Term). map (tree_at ts) rows) same
trees_kept old new rows t (inr grown) within = ap (λ (ts : List Term). map (tree_at ts) rows) grown ∙ kept old (t ∷ []) rows within

pub each_grows : (old new : List Term) (rows more : List ℕ) (row : ℕ) (t : Term) → All (λ r. r < length old) rows → ((new ≡ old) ⊎ (new ≡ old ++ t ∷ [])) → tree_at new row ≡ t
    → more ≡ rows ++ row ∷ [] → map (tree_at new) more ≡ map (tree_at old) rows ++ t ∷ []
each_grows old new rows more row t within grows is grown =
    ap (map (tree_at new)) grown ∙ map-append (tree_at new) rows (row ∷ [])
    ∙ ap (λ (u : Term). map (tree_at new) rows ++ u ∷ []) is
    ∙ ap (λ (ts : List Term). ts ++ t ∷ []) (trees_kept old new rows t grows within)

last_tree : (old : List Term) (t : Term) (row : ℕ) → row ≡ length old → tree_at (old ++ t ∷ []) row ≡ t
last_tree [] t row is = rw is refl
last_tree (u ∷ old) t row is = rw is (last_tree old t (length old) refl)

pub adds_variable : (old new : List Term) (rows more : List ℕ) (row : ℕ) → All (λ r. r < length old) rows → row ≡ length old → new ≡ old ++ var (variable_count old) ∷ [] → more ≡ rows ++ row ∷ []
    → AddsVariable (record { each = map (tree_at old) rows; table = old }) (record { each = map (tree_at new) more; table = new })
adds_variable old new rows more row within is new_is grown = record {
  each = each_grows old new rows more row (var (variable_count old)) within (inr new_is)
      (ap (λ (ts : List Term). tree_at ts row) new_is ∙ last_tree old (var (variable_count old)) row is) grown;
  table = new_is;
}

tree_of_number : (table : List Term) (rows : List ℕ) (number : ℕ) → number < length rows → tree_at (map (tree_at table) rows) number ≡ tree_at table (get_or rows number 0)
tree_of_number table [] number lt = absurd (omega arith)
tree_of_number table (row ∷ rows) zero lt = refl
tree_of_number table (row ∷ rows) (suc number) lt = tree_of_number table rows number (omega arith)

pub trees_of_numbers : (table : List Term) (rows numbers : List ℕ) → All (λ n. n < length rows) numbers → map (tree_at table) (rows_of rows numbers) ≡ map (tree_at (map (tree_at table) rows)) numbers
trees_of_numbers table rows [] there = refl
trees_of_numbers table rows (number ∷ numbers) there =
    let here : tree_at (map (tree_at table) rows) number ≡ tree_at table (get_or rows number 0) = tree_of_number table rows number (there 0 0 (omega arith)) in
    let later : map (tree_at table) (rows_of rows numbers) ≡ map (tree_at (map (tree_at table) rows)) numbers = trees_of_numbers table rows numbers (λ k d lt. there (suc k) d (omega arith)) in
    ap (λ (t : Term). t ∷ map (tree_at table) (rows_of rows numbers)) (sym here) ∙ ap (λ (ts : List Term). tree_at (map (tree_at table) rows) number ∷ ts) later

pub rows_within : (bound : ℕ) (rows numbers : List ℕ) → All (λ r. r < bound) rows → All (λ n. n < length rows) numbers → All (λ r. r < bound) (rows_of rows numbers)
rows_within bound rows [] within there = λ k d lt. omega arith
rows_within bound rows (number ∷ numbers) within there = go (rows_within bound rows numbers within (λ j e less. there (suc j) e (omega arith)))
  where
    go : All (λ r. r < bound) (rows_of rows numbers) → All (λ r. r < bound) (rows_of rows (number ∷ numbers))
    go later zero d lt = within number 0 (there 0 0 (omega arith))
    go later (suc k) d lt = later k d (omega arith)

tree_there : (terms : List Term) (row : ℕ) (t : Term) → slice_get terms row ≡ Some t → tree_at terms row ≡ t
tree_there [] row t e = absurd cc
tree_there (u ∷ terms) zero t e = cc
tree_there (u ∷ terms) (suc row) t e = tree_there terms row t e

pub adds_application : (old new : List Term) (rows more numbers args : List ℕ) (symbol row : ℕ) → All (λ r. r < length old) rows → All (λ n. n < length rows) numbers
    → args ≡ rows_of rows numbers → Adds old new (app symbol (as_terms (map (tree_at old) args))) row → more ≡ rows ++ row ∷ []
    → AddsApplication (record { each = map (tree_at old) rows; table = old }) (record { each = map (tree_at new) more; table = new }) symbol numbers
adds_application old new rows more numbers args symbol row within there is adds grown =
    let trees : map (tree_at old) args ≡ map (tree_at (map (tree_at old) rows)) numbers = ap (map (tree_at old)) is ∙ trees_of_numbers old rows numbers there in
    let term = app symbol (as_terms (map (tree_at (map (tree_at old) rows)) numbers)) in
    let adds_term : Adds old new term row = subst (λ (ts : List Term). Adds old new (app symbol (as_terms ts)) row) trees adds in
    record {
      each = each_grows old new rows more row term within (grows adds_term) (tree_there new row term adds_term.stands) grown;
      table = (row, adds_term);
    }
  where
    grows : {t : Term} → Adds old new t row → (new ≡ old) ⊎ (new ≡ old ++ t ∷ [])
    grows h = elim h.grows [
      | inl same ↦ inl same.0
      | inr new_one ↦ inr new_one.0
    ]

-- ---- numbers below a bound

pub below_more : (bound : ℕ) (numbers : List ℕ) (i : ℕ) → i < length numbers → All (λ n. n < bound) (take i numbers) → get_or numbers i 0 < bound → All (λ n. n < bound) (take (i + 1) numbers)
below_more bound numbers i lt so_far here = subst (All (λ n. n < bound)) (sym (take_more numbers i 0 lt)) (All-push (λ n. n < bound) (take i numbers) (get_or numbers i 0) so_far here)

pub below_all : (bound : ℕ) (numbers : List ℕ) (i : ℕ) → length numbers ≤ i → All (λ n. n < bound) (take i numbers) → All (λ n. n < bound) numbers
below_all bound numbers i le h = subst (All (λ n. n < bound)) (take_all i numbers le) h

-- ---- lines of applications

pub function_word : (symbol : Symbol) → symbol.kind ≡ Function → written_symbol symbol ≡ written_word symbol.text
function_word symbol is = ap (λ k. written_as k symbol.text) is

application_line_is : (raw : List ℕ) (words : List (Bor (List ℕ))) (o : Option Application) → IsCut raw (Some words) → ReadsApplication (bytes_of words) o → IsApplicationLine raw o
application_line_is raw words None cut none = λ symbol numbers is.
    none symbol.text numbers is.function.text is.small
    (is_cut raw words cut (written_symbol symbol) (map decimal numbers) (symbol_whole symbol, decimals_whole numbers is.small) is.is
    ∙ ap (λ (w : List ℕ). w ∷ map decimal numbers) (function_word symbol is.function.kind))
application_line_is raw words (Some a) cut some = record {
  function = record { text = some.0; count = refl; kind = refl };
  small = some.1;
  is = cut_is raw words cut (application_words (string_bytes a.text) a.numbers.items) some.2;
}

pub application_result : (E : Type 0) (raw : List ℕ) (words : List (Bor (List ℕ))) (r : Result (Option Application) E) → IsCut raw (Some words)
    → IfOk r (ReadsApplication (bytes_of words)) → IfOk r (IsApplicationLine raw)
application_result E raw words (Ok o) cut h = application_line_is raw words o cut h
application_result E raw words (Err e) cut h = tt
