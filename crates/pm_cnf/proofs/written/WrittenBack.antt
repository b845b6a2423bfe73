-- A problem that was read reads from its written clauses again.
use Rattle.std.proofs.Common.{arith, ◌≡◌, ◌<◌, ◌^◌, ◌+◌, ◌≤◌, ℕ, zero, suc, length, Bool, List, [], ◌∷◌, ◌++◌, sym, ap, subst, ◌∙◌}
use Rattle.std.specs.Prelude.{Some, map, All, slice_get}
use Rattle.std.specs.List.{AllByRecursion, flat_map}
use Rattle.std.proofs.lemmas.List.{length-map}
use Rattle.std.proofs.lemmas.List.Elements.{recursion_from_All, All-filter, All-from_recursion}
use Rattle.std.proofs.lemmas.Option.{same_Some, slice_get_within}
use Rattle.pm_logic.specs.Problem as logic
use Rattle.pm_logic.specs.Problem.{IsPrintable}
use Rattle.pm_logic.specs.Lists.{Gathers}
use Rattle.pm_logic.proofs.Gathering.{Gathers-all}
use Rattle.pm_cnf.specs.declared.limits.Limits.{Limits}
use Rattle.pm_scan.specs.Lexemes.{Token}
use Rattle.pm_cnf.specs.Grammar.{Name, word, integer, Item, AreItems, IsName, Formula, in_parentheses, disjunction, Atom, predicate, truth, falsity, Literal, item_places, file_places, tokens_of}
use Rattle.pm_cnf.specs.Meaning.{Pairwise, literals_of, is_kept, kept_items, Kept, kept_from, kept_among, kept_literals, literal_symbols, item_variables, with_texts, IsClauseOf, IsProblemIn, item_symbols}
use Rattle.pm_write.specs.Text.{variable_text, clause_text, problem_text}
use Rattle.pm_cnf.proofs.offences.Within.{Within, sound_within, within_sound, file_within}
use Rattle.pm_cnf.proofs.parsed.Kept.{HaveForm, HavePrintableTexts, form_append, printable_append, items_printable, file_formed}
use Rattle.pm_cnf.proofs.written.Limited.{IsLimited, items_limited, tokens_append}
use Rattle.pm_cnf.proofs.written.WrittenWords.{HasTokens, reads_nothing}
use Rattle.pm_cnf.proofs.written.WrittenItems.{rename, plain_name, rewritten, IsNamed, clause_reads}
use Rattle.pm_cnf.proofs.written.WrittenLimits.{CanWrite, file_goes}
use Rattle.pm_cnf.proofs.written.WrittenProblem.{variables_once, place_is, new_variables, item_renamed, problem_rewritten}
use Rattle.pm_cnf.proofs.meaning.ValidItems.{kept_few}

-- ---- lists

-- what each item has each kept one has
all_kept_items : (P : Item → Type 0) (items : List Item) → AllByRecursion P items → AllByRecursion P (kept_items items)
all_kept_items P items h = recursion_from_All P (kept_items items) (All-filter is_kept P items (All-from_recursion P items h))

-- gathered symbols are printable where those are that they were gathered from
gathered_printable : (old xs new : List logic.Symbol) → HavePrintableTexts old → HavePrintableTexts xs → Gathers old xs new → HavePrintableTexts new
gathered_printable old xs new h k is =
    let P : logic.Symbol → Type 0 = λ s. IsPrintable s.text in
    recursion_from_All P new (Gathers-all P xs old new is (All-from_recursion P old h) (All-from_recursion P xs k))

printable_at : (symbols : List logic.Symbol) (f : ℕ) (s : logic.Symbol) → HavePrintableTexts symbols → slice_get symbols f ≡ Some s → IsPrintable s.text
printable_at [] f s h is = absurd cc
printable_at (x ∷ xs) zero s h is = subst (λ (y : logic.Symbol). IsPrintable y.text) (same_Some x s is) h.0
printable_at (x ∷ xs) (suc f) s h is = printable_at xs f s h.1 is

occurrences_printable : (items : List Item) → AllByRecursion (λ item. All (λ s. IsPrintable s.text) (item_symbols item)) items → HavePrintableTexts (flat_map (λ item. flat_map literal_symbols (kept_literals item)) items)
occurrences_printable [] h = tt
occurrences_printable (item ∷ items) h =
    printable_append (item_symbols item) (flat_map (λ x. flat_map literal_symbols (kept_literals x)) items) (recursion_from_All (λ s. IsPrintable s.text) (item_symbols item) h.0) (occurrences_printable items h.1)

-- ---- items

items_named : (items : List Item) (n : ℕ) → AreItems items → HaveForm (file_places n items) → AllByRecursion IsNamed items
items_named [] n are formed = tt
items_named (item ∷ items) n are formed =
    let parts = form_append (item_places n item) (file_places (suc n) items) formed in
    (record { name = are.0.name; form = parts.0.1.1.0; role = parts.0.1.1.1.1.0 }, items_named items (suc n) are.1 parts.1)

plain_is_name : (name : Name) → IsName name → IsName (plain_name name)
plain_is_name (word w) is = tt
plain_is_name (integer digits) is = is

rewritten_are : (items : List Item) → AllByRecursion IsNamed items → AreItems (map rewritten items)
rewritten_are [] named = tt
rewritten_are (item ∷ items) named = (record { name = plain_is_name item.name named.0.name; annotations = tt }, rewritten_are items named.1)

some_literals : (f : Formula) → 0 < length (literals_of f)
some_literals (in_parentheses f) = some_literals f
some_literals (disjunction first others) = omega arith

kept_count : (positive : Bool) (atom : Atom) (others : List Kept) → length (kept_from positive atom others) ≤ suc (length others)
kept_count positive (predicate w args) others = omega arith
kept_count positive truth others = omega arith
kept_count positive falsity others = omega arith

fewer_kept : (literals : List Literal) → length (kept_among literals) ≤ length literals
fewer_kept [] = omega arith
fewer_kept (literal ∷ literals) = omega (arith, kept_count literal.positive literal.atom (kept_among literals), fewer_kept literals)

-- a limited item can be written
can_write : (limits : Limits) (item : Item) → limits.variables ≤ 10 ^ 64 → IsLimited limits item → CanWrite limits item
can_write limits item few limited =
    let new : List ℕ → List ℕ = rename (item_variables item) in
    record {
      some = omega (arith, some_literals item.formula, limited.literals);
      count = omega (arith, fewer_kept (literals_of item.formula), limited.literals);
      placed = limited.arguments;
      few = subst (λ (xs : List (List ℕ)). length xs ≤ limits.variables) (sym (ap (with_texts []) (new_variables new (kept_literals item)) ∙ item_renamed item (omega (arith, few, limited.variables))))
          (omega (arith, length-map (item_variables item) new, limited.variables));
    }

all_can_write : (limits : Limits) (items : List Item) → limits.variables ≤ 10 ^ 64 → AllByRecursion (IsLimited limits) items → AllByRecursion (CanWrite limits) items
all_can_write limits [] few limited = tt
all_can_write limits (item ∷ items) few limited = (can_write limits item few limited.0, all_can_write limits items few limited.1)

all_few : (limits : Limits) (items : List Item) → limits.variables ≤ 10 ^ 64 → AllByRecursion (IsLimited limits) items → AllByRecursion (λ item. length (item_variables item) ≤ 10 ^ 64) items
all_few limits [] few limited = tt
all_few limits (item ∷ items) few limited = (let h = limited.0.variables in omega (arith, few, h), all_few limits items few limited.1)

-- ---- the file

clauses_read : (symbols : List logic.Symbol) (items : List Item) (clauses : List logic.Clause) (n : ℕ) → ((f : ℕ) (s : logic.Symbol) → slice_get symbols f ≡ Some s → IsPrintable s.text)
    → AllByRecursion (λ item. length (item_variables item) ≤ 10 ^ 64) items → AllByRecursion IsNamed items → Pairwise (IsClauseOf symbols) items clauses
    → HasTokens (flat_map (clause_text symbols) clauses) (tokens_of (file_places n (map rewritten items))) []
clauses_read symbols [] [] n printable few named are = reads_nothing []
clauses_read symbols [] (c ∷ cs) n printable few named are = absurd are
clauses_read symbols (item ∷ items) [] n printable few named are = absurd are
clauses_read symbols (item ∷ items) (c ∷ cs) n printable few named are =
    subst (λ (ts : List Token). HasTokens (clause_text symbols c ++ flat_map (clause_text symbols) cs) ts []) (sym (tokens_append (item_places n (rewritten item)) (file_places (suc n) (map rewritten items))))
    (clause_reads symbols item c n (flat_map (clause_text symbols) cs) [] (tokens_of (file_places (suc n) (map rewritten items))) printable
    (λ k text is. (ap variable_text (place_is (item_variables item) text k (variables_once item) is), omega (arith, slice_get_within (item_variables item) k text is, few.0)))
    named.0 are.0 (clauses_read symbols items cs (suc n) printable few.1 named.1 are.1))

-- Written clauses are read back, where no item may have so many variables that their numbers are written alike.
pub written_reads_back : (limits : Limits) (bytes : List ℕ) (problem : logic.Problem) → limits.variables ≤ 10 ^ 64 → IsProblemIn limits bytes problem → IsProblemIn limits (problem_text problem) problem
written_reads_back limits bytes problem few p =
    let within : Within limits [] (file_places 0 p.items) = sound_within limits bytes p.text.lexemes p.items p.text.leads p.text.are p.text.file p.text.sound in
    let formed : HaveForm (file_places 0 p.items) = file_formed bytes p.text.lexemes p.items p.text.leads p.text.file in
    let kept : List Item = kept_items p.items in
    let limited : AllByRecursion (IsLimited limits) kept = all_kept_items (IsLimited limits) p.items (items_limited limits p.items 0 p.text.are within) in
    let named : AllByRecursion IsNamed kept = all_kept_items IsNamed p.items (items_named p.items 0 p.text.are formed) in
    let printable : HavePrintableTexts problem.symbols =
    gathered_printable [] (flat_map (λ item. flat_map literal_symbols (kept_literals item)) kept) problem.symbols tt
    (occurrences_printable kept (all_kept_items (λ item. All (λ s. IsPrintable s.text) (item_symbols item)) p.items (items_printable p.items 0 formed).1)) p.means.symbols in
    let reads : HasTokens (problem_text problem) (tokens_of (file_places 0 (map rewritten kept))) [] =
    clauses_read problem.symbols kept problem.clauses 0 (λ f s is. printable_at problem.symbols f s printable is) (all_few limits kept few limited) named p.means.clauses in
    let count : 0 + length kept ≤ limits.clauses = omega (arith, kept_few p.items, (file_within limits p.items within).0) in
    let are : AreItems (map rewritten kept) = rewritten_are kept named in
    record {
      items = map rewritten kept;
      text = record {
        sound = within_sound limits (problem_text problem) reads.lexemes (map rewritten kept) reads.leads are (sym reads.are) reads.faultless
            (file_goes limits kept 0 count (all_can_write limits kept few limited));
        lexemes = reads.lexemes;
        leads = reads.leads;
        are = are;
        file = sym reads.are;
      };
      means = problem_rewritten p.items problem (all_few limits kept few limited) p.means;
    }
