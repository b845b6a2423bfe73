-- What is kept of a file without offences is readable: not too much, and of printable words.
use Rattle.std.proofs.Common.{arith, ◌≡◌, ◌<◌, ◌-◌, ◌^◌, ◌≤◌, ℕ, suc, length, Bool, true, false, List, [], ◌∷◌, ◌++◌, sym, ap, subst, refl, length-append}
use Rattle.std.specs.Prelude.{map, All, IsTrue, if◌then◌else◌}
use Rattle.std.specs.List.{AllByRecursion, flat_map, list_all}
use Rattle.std.proofs.lemmas.Bool.{and_parts}
use Rattle.std.proofs.lemmas.Bool.Decides.{nat_tests}
use Rattle.std.proofs.lemmas.List.{length-map}
use Rattle.std.proofs.lemmas.List.Elements.{All-from_recursion, recursion_from_All, All-nil, All-cons}
use Rattle.std.specs.Char.{is_ascii_lowercase}
use Rattle.pm_logic.specs.Problem.{Symbol, IsPrintable}
use Rattle.pm_logic.specs.Word.{is_word_byte, is_lower_word}
use Rattle.pm_cnf.specs.declared.limits.Limits.{Limits}
use Rattle.pm_scan.specs.declared.token.Mark.TheVariants.{CloseParenthesis, Tilde}
use Rattle.pm_scan.specs.Lexemes.{Token, Lexeme, mark, Lexes, tokens_in}
use Rattle.pm_cnf.specs.Grammar.{Word, bare, between_quotes, word_text, Term, variable, application, Arguments, no_arguments, more_arguments, Atom, predicate, truth, falsity, Literal, Formula, in_parentheses, disjunction, Name, word, integer, Item, AreItems, Begins, an_atom, a_literal, Placed, only, word_token, term_places, arguments_places, others_places, atom_places, literal_places, others_joined, formula_places, ending_places, name_token, item_places, file_places, tokens_of}
use Rattle.pm_cnf.specs.Meaning.{literals_of, Kept, kept_from, kept_among, symbols_in, symbols_among, literal_symbols, item_symbols}
use Rattle.pm_cnf.specs.Inside.Draft.{term_nodes, arguments_nodes, atom_nodes, literal_nodes, written}
use Rattle.pm_cnf.specs.Inside.Readable.{HasPrintableName, AreReadable}
use Rattle.pm_scan.proofs.Forms.{tokens_have_form, tokens_fit}
use Rattle.pm_cnf.proofs.offences.Within.{IsSound, sound_within, file_within}
use Rattle.pm_scan.specs.Forms.{HasForm}
use Rattle.pm_cnf.proofs.Lists.{AllByRecursion-append}

-- ---- words

word_byte_printable : (b : ℕ) → is_word_byte b ≡ true → (32 ≤ b) × (b ≤ 126)
word_byte_printable b h = (grind (arith, nat_tests), grind (arith, nat_tests))

lowercase_printable : (b : ℕ) → is_ascii_lowercase b ≡ true → (32 ≤ b) × (b ≤ 126)
lowercase_printable b h = (grind (arith, nat_tests), grind (arith, nat_tests))

word_bytes_printable : (text : List ℕ) → list_all is_word_byte text ≡ true → All (λ b. (32 ≤ b) × (b ≤ 126)) text
word_bytes_printable [] h = All-nil (λ b. (32 ≤ b) × (b ≤ 126))
word_bytes_printable (b ∷ text) h =
    let parts = and_parts (is_word_byte b) (list_all is_word_byte text) h in
    All-cons (λ c. (32 ≤ c) × (c ≤ 126)) b text (word_byte_printable b parts.0) (word_bytes_printable text parts.1)

pub lower_printable : (text : List ℕ) → IsTrue (is_lower_word text) → IsPrintable text
lower_printable [] h = absurd cc
lower_printable (b ∷ text) h =
    let parts = and_parts (is_ascii_lowercase b) (list_all is_word_byte text) h in
    (omega arith, All-cons (λ c. (32 ≤ c) × (c ≤ 126)) b text (lowercase_printable b parts.0) (word_bytes_printable text parts.1))

pub word_printable : (w : Word) → HasForm (word_token w) → IsPrintable (word_text w)
word_printable (bare text) h = lower_printable text h
word_printable (between_quotes text) h = h

-- ---- symbols

-- each token has its form
abbrev pub HaveForm : List Placed → Type 0
HaveForm ps = AllByRecursion HasForm (tokens_of ps)

abbrev pub HavePrintableTexts : List Symbol → Type 0
HavePrintableTexts symbols = AllByRecursion (λ s. IsPrintable s.text) symbols

pub form_append : (ps qs : List Placed) → HaveForm (ps ++ qs) → HaveForm ps × HaveForm qs
form_append [] qs h = (tt, h)
form_append (p ∷ ps) qs h = let more = form_append ps qs h.1 in ((h.0, more.0), more.1)

pub printable_append : (ss us : List Symbol) → HavePrintableTexts ss → HavePrintableTexts us → HavePrintableTexts (ss ++ us)
printable_append = AllByRecursion-append (λ s. IsPrintable s.text)

mutual
  term_printable : (t : Term) (nesting n : ℕ) → HaveForm (term_places nesting n t) → HavePrintableTexts (symbols_in t)
  term_printable (variable text) nesting n h = tt
  term_printable (application w args) nesting n h = (word_printable w h.0, arguments_printable args (suc nesting) h.1)

  arguments_printable : (ts : Arguments) (nesting : ℕ) → HaveForm (arguments_places nesting ts) → HavePrintableTexts (symbols_among ts)
  arguments_printable no_arguments nesting h = tt
  arguments_printable (more_arguments t ts) nesting h =
      let parts = form_append (term_places nesting 0 t) (others_places nesting 1 ts) h.1 in
      printable_append (symbols_in t) (symbols_among ts) (term_printable t nesting 0 parts.0) (others_printable ts nesting 1 parts.1)

  others_printable : (ts : Arguments) (nesting n : ℕ) → HaveForm (others_places nesting n ts) → HavePrintableTexts (symbols_among ts)
  others_printable no_arguments nesting n h = tt
  others_printable (more_arguments t ts) nesting n h =
      let parts = form_append (term_places nesting n t) (others_places nesting (suc n) ts) h.1 in
      printable_append (symbols_in t) (symbols_among ts) (term_printable t nesting n parts.0) (others_printable ts nesting (suc n) parts.1)

atom_printable : (positive : Bool) (atom : Atom) (b : Begins) (others : List Kept) → HaveForm (atom_places b atom) → HavePrintableTexts (flat_map literal_symbols others)
    → HavePrintableTexts (flat_map literal_symbols (kept_from positive atom others))
atom_printable positive (predicate w args) b others h more =
    (word_printable w h.0, printable_append (symbols_among args) (flat_map literal_symbols others) (arguments_printable args 1 h.1) more)
atom_printable positive truth b others h more = more
atom_printable positive falsity b others h more = more

literal_printable : (literal : Literal) (n : ℕ) (others : List Kept) → HaveForm (literal_places n literal) → HavePrintableTexts (flat_map literal_symbols others)
    → HavePrintableTexts (flat_map literal_symbols (kept_from literal.positive literal.atom others))
literal_printable literal n others h more = by literal.positive h
  where
    by : (positive : Bool) → HaveForm (if positive then atom_places (a_literal n) literal.atom else (mark Tilde, a_literal n) ∷ atom_places an_atom literal.atom)
        → HavePrintableTexts (flat_map literal_symbols (kept_from literal.positive literal.atom others))
    by true k = atom_printable literal.positive literal.atom (a_literal n) others k more
    by false k = atom_printable literal.positive literal.atom an_atom others k.1 more

literals_printable : (literals : List Literal) (n : ℕ) → HaveForm (others_joined n literals) → HavePrintableTexts (flat_map literal_symbols (kept_among literals))
literals_printable [] n h = tt
literals_printable (literal ∷ literals) n h =
    let parts = form_append (literal_places n literal) (others_joined (suc n) literals) h.1 in
    literal_printable literal n (kept_among literals) parts.0 (literals_printable literals (suc n) parts.1)

formula_printable : (f : Formula) → HaveForm (formula_places f) → HavePrintableTexts (flat_map literal_symbols (kept_among (literals_of f)))
formula_printable (in_parentheses f) h = formula_printable f (form_append (formula_places f) (only CloseParenthesis ∷ []) h.1).0
formula_printable (disjunction first others) h =
    let parts = form_append (literal_places 0 first) (others_joined 1 others) h in
    literal_printable first 0 (kept_among others) parts.0 (literals_printable others 1 parts.1)

name_printable : (name : Name) → HasForm (name_token name) → HasPrintableName name
name_printable (word w) h = word_printable w h
name_printable (integer digits) h = tt

pub items_printable : (items : List Item) (n : ℕ) → HaveForm (file_places n items)
    → AllByRecursion (λ item. HasPrintableName item.name) items × AllByRecursion (λ item. All (λ s. IsPrintable s.text) (item_symbols item)) items
items_printable [] n h = (tt, tt)
items_printable (item ∷ items) n h =
    let parts = form_append (item_places n item) (file_places (suc n) items) h in
    let more = items_printable items (suc n) parts.1 in
    let formula = (form_append (formula_places item.formula) (ending_places item.annotations) parts.0.1.1.1.1.1.1).0 in (
      (name_printable item.name parts.0.1.1.0, more.0),
      (All-from_recursion (λ s. IsPrintable s.text) (item_symbols item) (formula_printable item.formula formula), more.1),
    )

-- ---- nodes

mutual
  term_short : (t : Term) (nesting n : ℕ) → length (term_nodes t) ≤ length (term_places nesting n t)
  term_short (variable text) nesting n = omega arith
  term_short (application w args) nesting n = omega (arith, arguments_short args (suc nesting))

  arguments_short : (ts : Arguments) (nesting : ℕ) → length (arguments_nodes ts) ≤ length (arguments_places nesting ts)
  arguments_short no_arguments nesting = omega arith
  arguments_short (more_arguments t ts) nesting =
      omega (arith, length-append (term_nodes t) (arguments_nodes ts), length-append (term_places nesting 0 t) (others_places nesting 1 ts), term_short t nesting 0, others_short ts nesting 1)

  others_short : (ts : Arguments) (nesting n : ℕ) → length (arguments_nodes ts) ≤ length (others_places nesting n ts)
  others_short no_arguments nesting n = omega arith
  others_short (more_arguments t ts) nesting n =
      omega (arith, length-append (term_nodes t) (arguments_nodes ts), length-append (term_places nesting n t) (others_places nesting (suc n) ts), term_short t nesting n, others_short ts nesting (suc n))

atom_short : (positive : Bool) (atom : Atom) (b : Begins) → length (atom_nodes positive atom) ≤ length (atom_places b atom)
atom_short positive (predicate w args) b = omega (arith, arguments_short args 1)
atom_short positive truth b = omega arith
atom_short positive falsity b = omega arith

literal_short : (literal : Literal) (n : ℕ) → length (literal_nodes literal) ≤ length (literal_places n literal)
literal_short literal n = by literal.positive
  where
    by : (positive : Bool) → length (literal_nodes literal) ≤ length (if positive then atom_places (a_literal n) literal.atom else (mark Tilde, a_literal n) ∷ atom_places an_atom literal.atom)
    by true = atom_short literal.positive literal.atom (a_literal n)
    by false = omega (arith, atom_short literal.positive literal.atom an_atom)

literals_short : (literals : List Literal) (n : ℕ) → length (flat_map literal_nodes literals) ≤ length (others_joined n literals)
literals_short [] n = omega arith
literals_short (literal ∷ literals) n =
    omega (arith, length-append (literal_nodes literal) (flat_map literal_nodes literals), length-append (literal_places n literal) (others_joined (suc n) literals), literal_short literal n, literals_short literals (suc n))

formula_short : (f : Formula) → length (flat_map literal_nodes (literals_of f)) ≤ length (formula_places f)
formula_short (in_parentheses f) = omega (arith, formula_short f, length-append (formula_places f) (only CloseParenthesis ∷ []))
formula_short (disjunction first others) =
    omega (arith, length-append (literal_nodes first) (flat_map literal_nodes others), length-append (literal_places 0 first) (others_joined 1 others), literal_short first 0, literals_short others 1)

item_short : (item : Item) (n : ℕ) → length (written item).nodes ≤ length (item_places n item)
item_short item n = omega (arith, formula_short item.formula, length-append (formula_places item.formula) (ending_places item.annotations))

file_short : (items : List Item) (n : ℕ) → length (flat_map (λ w. w.nodes) (map written items)) ≤ length (file_places n items)
file_short [] n = omega arith
file_short (item ∷ items) n =
    omega (arith, length-append (written item).nodes (flat_map (λ w. w.nodes) (map written items)), length-append (item_places n item) (file_places (suc n) items), item_short item n, file_short items (suc n))

-- Each node has a byte.
pub nodes_fit : (bytes : List ℕ) (lexemes : List Lexeme) (items : List Item) → Lexes lexemes bytes [] → tokens_of (file_places 0 items) ≡ tokens_in lexemes
    → length (flat_map (λ w. w.nodes) (map written items)) ≤ length bytes
nodes_fit bytes lexemes items leads file =
    omega (arith, file_short items 0, length-map (file_places 0 items) (λ (p : Placed). p.0), ap length file, tokens_fit lexemes bytes [] leads)

-- the tokens of a file have their forms
pub file_formed : (bytes : List ℕ) (lexemes : List Lexeme) (items : List Item) → Lexes lexemes bytes [] → tokens_of (file_places 0 items) ≡ tokens_in lexemes → HaveForm (file_places 0 items)
file_formed bytes lexemes items leads file =
    subst (λ (ts : List Token). AllByRecursion HasForm ts) (sym file) (recursion_from_All HasForm (tokens_in lexemes) (tokens_have_form lexemes bytes [] leads))

-- Items of a file without offences, within the standard limits, are readable.
pub file_readable : (limits : Limits) (bytes : List ℕ) (lexemes : List Lexeme) (items : List Item) → Lexes lexemes bytes [] → AreItems items → tokens_of (file_places 0 items) ≡ tokens_in lexemes
    → IsSound limits bytes → limits.clauses ≤ 65536 → limits.literals ≤ 255 → length bytes < 2 ^ 32 - 1 → AreReadable (map written items)
file_readable limits bytes lexemes items leads are file sound clauses literals short =
    let within = file_within limits items (sound_within limits bytes lexemes items leads are file sound) in
    let words = items_printable items 0 (file_formed bytes lexemes items leads file) in
    record {
      items = items;
      are = refl;
      few = omega (arith, within.0, clauses);
      literals = λ k d lt. omega (arith, within.1 k d lt, literals);
      names = All-from_recursion (λ item. HasPrintableName item.name) items words.0;
      printable = All-from_recursion (λ item. All (λ s. IsPrintable s.text) (item_symbols item)) items words.1;
      short = omega (arith, nodes_fit bytes lexemes items leads file, short);
    }
