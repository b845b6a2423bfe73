-- The items that are written for a problem have the same problem.
use Rattle.std.proofs.Common.{arith, ◌≡◌, ◌<◌, ◌^◌, ◌≤◌, ℕ, zero, suc, length, Bool, true, false, List, [], ◌∷◌, ◌++◌, sym, ap, ap₂, subst, ◌∙◌, refl, drop, decimal}
use Rattle.std.specs.Prelude.{Some, Contains, map, not, slice_get, ◌||◌, if◌then◌else◌}
use Rattle.std.specs.List.{AllByRecursion, flat_map, list_any}
use Rattle.std.specs.Str.{bytes_eq}
use Rattle.std.specs.Str.Parse.{digits_value}
use Rattle.std.proofs.lemmas.Fmt.{decimal_is_IsNumeral_wide}
use Rattle.std.proofs.lemmas.List.{length-map}
use Rattle.std.proofs.lemmas.Map.Views.{Contains-from_any}
use Rattle.std.proofs.lemmas.Option.{same_Some, slice_get_within, slice_get-get_or}
use Rattle.std.proofs.lemmas.Slice.Eq.{bytes_eq-Decides}
use Rattle.pm_logic.specs.Problem as logic
use Rattle.pm_logic.specs.Term as tree
use Rattle.pm_logic.specs.Word.{is_lower_word}
use Rattle.pm_logic.specs.Lists.{Gathers}
use Rattle.pm_cnf.specs.Grammar.{Word, bare, between_quotes, word_text, Term, variable, application, Arguments, no_arguments, more_arguments, Name, word, integer, Item}
use Rattle.pm_cnf.specs.Offences.{with_text}
use Rattle.pm_cnf.specs.Meaning.{Pairwise, literals_of, holds_always, kept_items, Kept, kept_among, kept_literals, argument_count, function_of, predicate_of, symbols_in, symbols_among, variables_in, variables_among, literal_symbols, with_texts, item_variables, IsTreeOf, AreTreesOf, IsLiteralOf, label_of, IsClauseOf, IsProblemOf}
use Rattle.pm_cnf.proofs.meaning.GatheredOnce.{HoldsOnce, with_texts_once}
use Rattle.pm_cnf.proofs.written.Limited.{variables_of}
use Rattle.pm_cnf.proofs.written.WrittenWords.{plain_word}
use Rattle.pm_cnf.proofs.written.WrittenItems.{place_of, rename, renamed, renamed_all, literal_from, formula_from, plain_name, rewritten}

-- ---- names of variables

-- the text is one of these
abbrev pub IsIn : List (List ℕ) → List ℕ → Type 0
IsIn texts text = (n : ℕ) × (slice_get texts n ≡ Some text)

in_more : (xs ys : List (List ℕ)) (x : List ℕ) (n : ℕ) → slice_get xs n ≡ Some x → slice_get (xs ++ ys) n ≡ Some x
in_more [] ys x n is = absurd cc
in_more (z ∷ xs) ys x zero is = is
in_more (z ∷ xs) ys x (suc n) is = in_more xs ys x n is

in_last : (xs : List (List ℕ)) (x : List ℕ) → slice_get (xs ++ x ∷ []) (length xs) ≡ Some x
in_last [] x = refl
in_last (z ∷ xs) x = in_last xs x

keeps : (known : List (List ℕ)) (y x : List ℕ) → IsIn known x → IsIn (with_text known y) x
keeps known y x h = by (list_any (bytes_eq y) known)
  where
    by : (found : Bool) → IsIn (if found then known else known ++ y ∷ []) x
    by true = h
    by false = (h.0, in_more known (y ∷ []) x h.0 h.1)

has : (known : List (List ℕ)) (y : List ℕ) → IsIn (with_text known y) y
has known y = by (list_any (bytes_eq y) known) refl
  where
    by : (found : Bool) → list_any (bytes_eq y) known ≡ found → IsIn (if found then known else known ++ y ∷ []) y
    by true is =
        let c : Contains known y = Contains-from_any (λ a b. (bytes_eq-Decides a b).0) y known is in
        (c.0, slice_get-get_or known c.0 y c.1 ∙ ap Some c.2)
    by false is = (length known, in_last known y)

all_keep : (known ys : List (List ℕ)) (x : List ℕ) → IsIn known x → IsIn (with_texts known ys) x
all_keep known [] x h = h
all_keep known (y ∷ ys) x h = all_keep (with_text known y) ys x (keeps known y x h)

-- the texts are among the different ones
all_in : (known ys : List (List ℕ)) → AllByRecursion (IsIn (with_texts known ys)) ys
all_in known [] = tt
all_in known (y ∷ ys) = (all_keep (with_text known y) ys y (has known y), all_in (with_text known y) ys)

place_finds : (texts : List (List ℕ)) (text : List ℕ) (n : ℕ) → slice_get texts n ≡ Some text → slice_get texts (place_of texts text) ≡ Some text
place_finds [] text n is = absurd cc
place_finds (other ∷ texts) text n is = by (bytes_eq text other) refl n is (place_finds texts text)
  where
    by : (same : Bool) → bytes_eq text other ≡ same → (k : ℕ) → slice_get (other ∷ texts) k ≡ Some text → ((j : ℕ) → slice_get texts j ≡ Some text → slice_get texts (place_of texts text) ≡ Some text)
        → slice_get (other ∷ texts) (if same then 0 else suc (place_of texts text)) ≡ Some text
    by true same k at more = ap Some (sym ((bytes_eq-Decides text other).0 same))
    by false same zero at more = absurd (let yes : bytes_eq text other ≡ true = (bytes_eq-Decides text other).1 (sym (same_Some other text at)) in cc)
    by false same (suc j) at more = more j at

-- A variable is named by its place, where the variables are different.
pub place_is : (texts : List (List ℕ)) (text : List ℕ) (n : ℕ) → HoldsOnce texts → slice_get texts n ≡ Some text → place_of texts text ≡ n
place_is texts text n once is = once (place_of texts text) n text (place_finds texts text n is) is

decimal_same : (m n : ℕ) → m < 10 ^ 64 → n < 10 ^ 64 → decimal m ≡ decimal n → m ≡ n
decimal_same m n p q e = sym (decimal_is_IsNumeral_wide m p).1 ∙ ap (digits_value 10) e ∙ (decimal_is_IsNumeral_wide n q).1

rename_same : (texts : List (List ℕ)) → HoldsOnce texts → length texts ≤ 10 ^ 64 → (x y : List ℕ) → IsIn texts x → IsIn texts y → rename texts x ≡ rename texts y → x ≡ y
rename_same texts once few x y h k is =
    let m : place_of texts x ≡ h.0 = place_is texts x h.0 once h.1 in
    let n : place_of texts y ≡ k.0 = place_is texts y k.0 once k.1 in
    let below : h.0 < 10 ^ 64 = omega (arith, slice_get_within texts h.0 x h.1, few) in
    let under : k.0 < 10 ^ 64 = omega (arith, slice_get_within texts k.0 y k.1, few) in
    let places : h.0 ≡ k.0 = decimal_same h.0 k.0 below under (ap decimal (sym m) ∙ ap (drop 1) is ∙ ap decimal n) in
    same_Some x y (sym h.1 ∙ ap (slice_get texts) places ∙ k.1)

map_push : (new : List ℕ → List ℕ) (xs : List (List ℕ)) (x : List ℕ) → map new xs ++ new x ∷ [] ≡ map new (xs ++ x ∷ [])
map_push new [] x = refl
map_push new (z ∷ xs) x = ap (λ (ys : List (List ℕ)). new z ∷ ys) (map_push new xs x)

module _ (all : List (List ℕ)) (new : List ℕ → List ℕ) (apart : (x y : List ℕ) → IsIn all x → IsIn all y → new x ≡ new y → x ≡ y) where
  test_same : (x y : List ℕ) → IsIn all x → IsIn all y → bytes_eq (new x) (new y) ≡ bytes_eq x y
  test_same x y h k = by (bytes_eq x y) (bytes_eq (new x) (new y)) refl refl
    where
      by : (s t : Bool) → bytes_eq x y ≡ s → bytes_eq (new x) (new y) ≡ t → t ≡ s
      by true true p q = refl
      by false false p q = refl
      by true false p q = absurd (let e : bytes_eq (new x) (new y) ≡ true = (bytes_eq-Decides (new x) (new y)).1 (ap new ((bytes_eq-Decides x y).0 p)) in cc)
      by false true p q = absurd (let e : bytes_eq x y ≡ true = (bytes_eq-Decides x y).1 (apart x y h k ((bytes_eq-Decides (new x) (new y)).0 q)) in cc)

  any_same : (x : List ℕ) (known : List (List ℕ)) → IsIn all x → AllByRecursion (IsIn all) known → list_any (bytes_eq (new x)) (map new known) ≡ list_any (bytes_eq x) known
  any_same x [] h k = refl
  any_same x (y ∷ known) h k = ap₂ (λ (a b : Bool). a || b) (test_same x y h k.0) (any_same x known h k.1)

  text_renamed : (known : List (List ℕ)) (x : List ℕ) → IsIn all x → AllByRecursion (IsIn all) known → with_text (map new known) (new x) ≡ map new (with_text known x)
  text_renamed known x h k = ap (λ (found : Bool). if found then map new known else map new known ++ new x ∷ []) (any_same x known h k) ∙ by (list_any (bytes_eq x) known)
    where
      by : (found : Bool) → (if found then map new known else map new known ++ new x ∷ []) ≡ map new (if found then known else known ++ x ∷ [])
      by true = refl
      by false = map_push new known x

  in_push : (known : List (List ℕ)) (x : List ℕ) → IsIn all x → AllByRecursion (IsIn all) known → AllByRecursion (IsIn all) (known ++ x ∷ [])
  in_push [] x h k = (h, tt)
  in_push (y ∷ known) x h k = (k.0, in_push known x h k.1)

  texts_renamed : (known xs : List (List ℕ)) → AllByRecursion (IsIn all) known → AllByRecursion (IsIn all) xs → with_texts (map new known) (map new xs) ≡ map new (with_texts known xs)
  texts_renamed known [] k h = refl
  texts_renamed known (x ∷ xs) k h =
      ap (λ (texts : List (List ℕ)). with_texts texts (map new xs)) (text_renamed known x h.0 k) ∙ texts_renamed (with_text known x) xs (by (list_any (bytes_eq x) known)) h.1
    where
      by : (found : Bool) → AllByRecursion (IsIn all) (if found then known else known ++ x ∷ [])
      by true = k
      by false = in_push known x h.0 k

-- ---- terms and literals

plain_text : (text : List ℕ) → word_text (plain_word text) ≡ text
plain_text text = by (is_lower_word text)
  where
    by : (lower_word : Bool) → word_text (if lower_word then bare text else between_quotes text) ≡ text
    by true = refl
    by false = refl

map_parts : (new : List ℕ → List ℕ) (xs ys : List (List ℕ)) → map new (xs ++ ys) ≡ map new xs ++ map new ys
map_parts new [] ys = refl
map_parts new (x ∷ xs) ys = ap (λ (zs : List (List ℕ)). new x ∷ zs) (map_parts new xs ys)

module _ (new : List ℕ → List ℕ) where
  -- a literal as it is written
  abbrev pub copied : Kept → Kept
  copied k = record { positive = k.positive; predicate = plain_word (word_text k.predicate); args = renamed_all new k.args }

  count_same : (ts : Arguments) → argument_count (renamed_all new ts) ≡ argument_count ts
  count_same no_arguments = refl
  count_same (more_arguments t ts) = ap suc (count_same ts)

  function_same : (w : Word) (args : Arguments) → function_of (plain_word (word_text w)) (renamed_all new args) ≡ function_of w args
  function_same w args = ap₂ (λ (text : List ℕ) (n : ℕ). record { text = text; arity = n; kind = (function_of w args).kind }) (plain_text (word_text w)) (count_same args)

  predicate_same : (w : Word) (args : Arguments) → predicate_of (plain_word (word_text w)) (renamed_all new args) ≡ predicate_of w args
  predicate_same w args = ap₂ (λ (text : List ℕ) (n : ℕ). record { text = text; arity = n; kind = (predicate_of w args).kind }) (plain_text (word_text w)) (count_same args)

  mutual
    symbols_same : (t : Term) → symbols_in (renamed new t) ≡ symbols_in t
    symbols_same (variable text) = refl
    symbols_same (application w args) = ap₂ (λ (s : logic.Symbol) (ss : List logic.Symbol). s ∷ ss) (function_same w args) (all_symbols_same args)

    all_symbols_same : (ts : Arguments) → symbols_among (renamed_all new ts) ≡ symbols_among ts
    all_symbols_same no_arguments = refl
    all_symbols_same (more_arguments t ts) = ap₂ (λ (ss us : List logic.Symbol). ss ++ us) (symbols_same t) (all_symbols_same ts)

  mutual
    variables_renamed : (t : Term) → variables_in (renamed new t) ≡ map new (variables_in t)
    variables_renamed (variable text) = refl
    variables_renamed (application w args) = all_variables_renamed args

    all_variables_renamed : (ts : Arguments) → variables_among (renamed_all new ts) ≡ map new (variables_among ts)
    all_variables_renamed no_arguments = refl
    all_variables_renamed (more_arguments t ts) =
        ap₂ (λ (xs ys : List (List ℕ)). xs ++ ys) (variables_renamed t) (all_variables_renamed ts) ∙ sym (map_parts new (variables_in t) (variables_among ts))

  -- the variables of literals as they are written
  pub new_variables : (ks : List Kept) → flat_map (λ k. variables_among (renamed_all new k.args)) ks ≡ map new (variables_of ks)
  new_variables [] = refl
  new_variables (k ∷ ks) = ap₂ (λ (xs ys : List (List ℕ)). xs ++ ys) (all_variables_renamed k.args) (new_variables ks) ∙ sym (map_parts new (variables_among k.args) (variables_of ks))

  copied_variables : (ks : List Kept) → variables_of (map copied ks) ≡ map new (variables_of ks)
  copied_variables [] = refl
  copied_variables (k ∷ ks) = ap₂ (λ (xs ys : List (List ℕ)). xs ++ ys) (all_variables_renamed k.args) (copied_variables ks) ∙ sym (map_parts new (variables_among k.args) (variables_of ks))

  kept_copied : (ks : List Kept) → kept_among (map (literal_from new) ks) ≡ map copied ks
  kept_copied [] = refl
  kept_copied (k ∷ ks) = ap (λ (xs : List Kept). copied k ∷ xs) (kept_copied ks)

  pub formula_kept : (ks : List Kept) → kept_among (literals_of (formula_from new ks)) ≡ map copied ks
  formula_kept [] = refl
  formula_kept (k ∷ ks) = ap (λ (xs : List Kept). copied k ∷ xs) (kept_copied ks)

  none_holds : (ks : List Kept) → list_any (λ literal. holds_always literal.positive literal.atom) (map (literal_from new) ks) ≡ false
  none_holds [] = refl
  none_holds (k ∷ ks) = none_holds ks

  pub formula_is_kept : (ks : List Kept) → not (list_any (λ literal. holds_always literal.positive literal.atom) (literals_of (formula_from new ks))) ≡ true
  formula_is_kept [] = refl
  formula_is_kept (k ∷ ks) = ap not (none_holds ks)

  copied_symbols : (ks : List Kept) → flat_map literal_symbols (map copied ks) ≡ flat_map literal_symbols ks
  copied_symbols [] = refl
  copied_symbols (k ∷ ks) =
      ap₂ (λ (s : logic.Symbol) (ss : List logic.Symbol). (s ∷ ss) ++ flat_map literal_symbols (map copied ks)) (predicate_same k.predicate k.args) (all_symbols_same k.args)
      ∙ ap (λ (ss : List logic.Symbol). literal_symbols k ++ ss) (copied_symbols ks)

  module _ (symbols : List logic.Symbol) (variables : List (List ℕ)) where
    get_renamed : (xs : List (List ℕ)) (n : ℕ) (x : List ℕ) → slice_get xs n ≡ Some x → slice_get (map new xs) n ≡ Some (new x)
    get_renamed [] n x is = absurd cc
    get_renamed (z ∷ xs) zero x is = ap (λ (y : List ℕ). Some (new y)) (same_Some z x is)
    get_renamed (z ∷ xs) (suc n) x is = get_renamed xs n x is

    mutual
      tree_renamed : (t : Term) (u : tree.Term) → IsTreeOf symbols variables t u → IsTreeOf symbols (map new variables) (renamed new t) u
      tree_renamed (variable text) (tree.var n) is = get_renamed variables n text is
      tree_renamed (variable text) (tree.app f us) is = absurd is
      tree_renamed (application w args) (tree.var n) is = absurd is
      tree_renamed (application w args) (tree.app f us) is = (is.0 ∙ ap Some (sym (function_same w args)), trees_renamed args us is.1)

      trees_renamed : (ts : Arguments) (us : tree.Terms) → AreTreesOf symbols variables ts us → AreTreesOf symbols (map new variables) (renamed_all new ts) us
      trees_renamed no_arguments tree.no_terms are = tt
      trees_renamed no_arguments (tree.more_terms u us) are = absurd are
      trees_renamed (more_arguments t ts) tree.no_terms are = absurd are
      trees_renamed (more_arguments t ts) (tree.more_terms u us) are = (tree_renamed t u are.0, trees_renamed ts us are.1)

    literal_renamed : (k : Kept) (l : logic.Literal) → IsLiteralOf symbols variables k l → IsLiteralOf symbols (map new variables) (copied k) l
    literal_renamed k l is = record { sign = is.sign; symbol = is.symbol ∙ ap Some (sym (predicate_same k.predicate k.args)); terms = trees_renamed k.args (tree.as_terms l.args) is.terms }

    literals_renamed : (ks : List Kept) (ls : List logic.Literal) → Pairwise (IsLiteralOf symbols variables) ks ls → Pairwise (IsLiteralOf symbols (map new variables)) (map copied ks) ls
    literals_renamed [] [] are = tt
    literals_renamed [] (l ∷ ls) are = absurd are
    literals_renamed (k ∷ ks) [] are = absurd are
    literals_renamed (k ∷ ks) (l ∷ ls) are = (literal_renamed k l are.0, literals_renamed ks ls are.1)

-- ---- items

pub variables_once : (item : Item) → HoldsOnce (item_variables item)
variables_once item = with_texts_once (variables_of (kept_literals item))

-- the different variables of an item, renamed, are those of the renamed ones
pub item_renamed : (item : Item) → length (item_variables item) ≤ 10 ^ 64
    → with_texts [] (map (rename (item_variables item)) (variables_of (kept_literals item))) ≡ map (rename (item_variables item)) (item_variables item)
item_renamed item few =
    texts_renamed (item_variables item) (rename (item_variables item)) (rename_same (item_variables item) (variables_once item) few) [] (variables_of (kept_literals item)) tt (all_in [] (variables_of (kept_literals item)))

label_same : (name : Name) → label_of (plain_name name) ≡ label_of name
label_same (word w) = ap logic.word (plain_text (word_text w))
label_same (integer digits) = refl

clause_rewritten : (symbols : List logic.Symbol) (item : Item) (clause : logic.Clause) → length (item_variables item) ≤ 10 ^ 64 → IsClauseOf symbols item clause → IsClauseOf symbols (rewritten item) clause
clause_rewritten symbols item clause few is =
    let new : List ℕ → List ℕ = rename (item_variables item) in
    let kept : kept_literals (rewritten item) ≡ map (copied new) (kept_literals item) = formula_kept new (kept_literals item) in
    let variables : item_variables (rewritten item) ≡ map new (item_variables item) =
    ap (λ (ks : List Kept). with_texts [] (variables_of ks)) kept ∙ ap (with_texts []) (copied_variables new (kept_literals item)) ∙ item_renamed item few in
    record {
      name = is.name ∙ sym (label_same item.name);
      role = is.role;
      vars = is.vars ∙ sym (length-map (item_variables item) new) ∙ ap length (sym variables);
      literals = subst (λ (xs : List (List ℕ)). Pairwise (IsLiteralOf symbols xs) (kept_literals (rewritten item)) clause.literals) (sym variables)
          (subst (λ (ks : List Kept). Pairwise (IsLiteralOf symbols (map new (item_variables item))) ks clause.literals) (sym kept)
          (literals_renamed new symbols (item_variables item) (kept_literals item) clause.literals is.literals));
    }

clauses_rewritten : (symbols : List logic.Symbol) (items : List Item) (clauses : List logic.Clause) → AllByRecursion (λ item. length (item_variables item) ≤ 10 ^ 64) items → Pairwise (IsClauseOf symbols) items clauses
    → Pairwise (IsClauseOf symbols) (map rewritten items) clauses
clauses_rewritten symbols [] [] few are = tt
clauses_rewritten symbols [] (c ∷ cs) few are = absurd are
clauses_rewritten symbols (item ∷ items) [] few are = absurd are
clauses_rewritten symbols (item ∷ items) (c ∷ cs) few are = (clause_rewritten symbols item c few.0 are.0, clauses_rewritten symbols items cs few.1 are.1)

all_rewritten_kept : (items : List Item) → kept_items (map rewritten items) ≡ map rewritten items
all_rewritten_kept [] = refl
all_rewritten_kept (item ∷ items) =
    ap (λ (kept : Bool). if kept then rewritten item ∷ kept_items (map rewritten items) else kept_items (map rewritten items)) (formula_is_kept (rename (item_variables item)) (kept_literals item))
    ∙ ap (λ (xs : List Item). rewritten item ∷ xs) (all_rewritten_kept items)

occurrences_rewritten : (items : List Item) → flat_map (λ item. flat_map literal_symbols (kept_literals item)) (map rewritten items) ≡ flat_map (λ item. flat_map literal_symbols (kept_literals item)) items
occurrences_rewritten [] = refl
occurrences_rewritten (item ∷ items) =
    let new : List ℕ → List ℕ = rename (item_variables item) in
    ap₂ (λ (ss us : List logic.Symbol). ss ++ us) (ap (flat_map literal_symbols) (formula_kept new (kept_literals item)) ∙ copied_symbols new (kept_literals item)) (occurrences_rewritten items)

-- The items that are written for a problem have this problem.
pub problem_rewritten : (items : List Item) (problem : logic.Problem) → AllByRecursion (λ item. length (item_variables item) ≤ 10 ^ 64) (kept_items items) → IsProblemOf items problem
    → IsProblemOf (map rewritten (kept_items items)) problem
problem_rewritten items problem few is = record {
  symbols = subst (λ (ss : List logic.Symbol). Gathers [] ss problem.symbols)
      (sym (ap (flat_map (λ item. flat_map literal_symbols (kept_literals item))) (all_rewritten_kept (kept_items items)) ∙ occurrences_rewritten (kept_items items))) is.symbols;
  terms = is.terms;
  clauses = subst (λ (xs : List Item). Pairwise (IsClauseOf problem.symbols) xs problem.clauses) (sym (all_rewritten_kept (kept_items items)))
      (clauses_rewritten problem.symbols (kept_items items) problem.clauses few is.clauses);
}
