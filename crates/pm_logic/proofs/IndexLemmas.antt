-- What the index of symbols by text finds.
use Rattle.std.proofs.Common.{◌≡◌, ℕ, ◌+◌, ◌<◌, ◌^◌, Bool, true, false, cond, List, [], ◌∷◌, ◌++◌, length, get_or, Some, None, inr, refl, sym, ◌∙◌, ap, subst, arith, slice_get}
use Rattle.std.specs.Prelude.{String, Vec, Contains, if◌then◌else◌, string_bytes, string_eq, map, Result, Ok, Err, OnErr}
use Rattle.std.specs.Str.{bytes_eq}
use Rattle.std.proofs.lemmas.List.{length_push, append-nil}
use Rattle.std.proofs.lemmas.Slice.Eq.{bytes_eq-Decides}
use Rattle.std.specs.Option.{option_map_or}
use Rattle.std.specs.HashMap as hash
use Rattle.std.proofs.lemmas.Map.Text.{hash_map_updates_text}
use Rattle.std.proofs.lemmas.List.{length-map, get_or-map, map_push}
use Rattle.std.proofs.lemmas.Option.{slice_get_within, slice_get-get_or}
use Rattle.indexmap.specs.IndexMap.{IndexMap, get_by_text}
use Rattle.pm_logic.specs.declared.symbols.Symbol.{Symbol as Row}
use Rattle.pm_logic.specs.declared.symbols.Kind.{Kind}
use Rattle.pm_logic.specs.Lists.{places}
use Rattle.pm_logic.specs.Problem.{Symbol, Numbers}
use Rattle.pm_logic.specs.Inside.Index.{symbol_of, numbers_of, IsIndexed}
use Rattle.pm_logic.proofs.ListLemmas.{slice_get-last, places-sound, places-complete, places-push, Contains-stands, AreDistinct-push}

-- a fact, whatever the error
pub on_err : {T E : Type 0} (r : Result T E) (P : Type 0) → P → OnErr r P
on_err (Ok x) P p = tt
on_err (Err e) P p = p

-- the numbers of the symbols of a text
abbrev pub of_text : List ℕ → List Symbol → List ℕ
of_text text symbols = places (λ symbol. bytes_eq symbol.text text) 0 symbols

-- the symbol of this number has this text
pub record HasText (symbols : List Symbol) (text : List ℕ) (number : ℕ) : Type 0 where
  pub symbol : Symbol
  pub stands : slice_get symbols number ≡ Some symbol
  pub same_text : symbol.text ≡ text

-- each number that the index has for a text is of a symbol of that text
pub of_text-sound : (symbols : List Symbol) (text numbers : List ℕ) (j : ℕ) → numbers ≡ of_text text symbols → j < length numbers
    → HasText symbols text (get_or numbers j 0)
of_text-sound symbols text numbers j same lt =
    let P : List ℕ → Type 0 = λ ns. j < length ns in
    let h = places-sound (λ (symbol : Symbol). bytes_eq symbol.text text) 0 symbols j (subst P same lt) in
    let number : get_or numbers j 0 ≡ h.0 = ap (λ ns. get_or ns j 0) same ∙ h.1 ∙ omega arith in
    record {
      symbol = h.2.item;
      stands = ap (slice_get symbols) number ∙ h.2.stands;
      same_text = (bytes_eq-Decides h.2.item.text text).0 h.2.passes;
    }

-- a symbol is among those that the index has for its text
pub of_text-complete : (symbols : List Symbol) (symbol : Symbol) (numbers : List ℕ) → numbers ≡ of_text symbol.text symbols → Contains symbols symbol
    → (j : ℕ) × (j < length numbers) × (slice_get symbols (get_or numbers j 0) ≡ Some symbol)
of_text-complete symbols symbol numbers same h =
    let place = Contains-stands symbols symbol h in
    let found = places-complete (λ (s : Symbol). bytes_eq s.text symbol.text) 0 symbols place.0 symbol place.1 ((bytes_eq-Decides symbol.text symbol.text).1 refl) in
    let P : List ℕ → Type 0 = λ ns. found.0 < length ns in
    let number : get_or numbers found.0 0 ≡ place.0 = ap (λ ns. get_or ns found.0 0) same ∙ found.2 ∙ omega arith in
    (found.0, subst P (sym same) found.1, ap (slice_get symbols) number ∙ place.1)

module _ {Y Z S : Type 0} where
  numbers_push : (old new : IndexMap (String Y) (Vec ℕ Z) S) (symbols : List Symbol) (symbol : Symbol) (text : List ℕ)
      → numbers_of old text ≡ of_text text symbols
      → numbers_of new text ≡ (if bytes_eq symbol.text text then numbers_of old text ++ length symbols ∷ [] else numbers_of old text)
      → numbers_of new text ≡ of_text text (symbols ++ symbol ∷ [])
  numbers_push old new symbols symbol text was is =
      is ∙ by (bytes_eq symbol.text text) ∙ ap (λ ns. ns ++ cond (bytes_eq symbol.text text) ((0 + length symbols) ∷ []) []) was
      ∙ sym (places-push (λ s. bytes_eq s.text text) 0 symbols symbol)
    where
      same : length symbols ≡ 0 + length symbols
      same = omega arith

      by : (b : Bool) → (if b then numbers_of old text ++ length symbols ∷ [] else numbers_of old text)
          ≡ numbers_of old text ++ cond b ((0 + length symbols) ∷ []) []
      by true = ap (λ n. numbers_of old text ++ n ∷ []) same
      by false = sym (append-nil (numbers_of old text))

  -- a new symbol is indexed once its text's numbers have its own
  pub IsIndexed-push : (old new : IndexMap (String Y) (Vec ℕ Z) S) (symbols : List Symbol) (symbol : Symbol) (number : ℕ)
      → IsIndexed symbols old → ¬ Contains symbols symbol → number ≡ length symbols → number + 1 < 2 ^ 32
      → ((text : List ℕ) → numbers_of new text ≡ (if bytes_eq symbol.text text then numbers_of old text ++ number ∷ [] else numbers_of old text))
      → IsIndexed (symbols ++ symbol ∷ []) new
  IsIndexed-push old new symbols symbol number h absent next few more = record {
    few = omega (arith, length_push symbols symbol);
    distinct = AreDistinct-push symbols symbol h.distinct absent;
    numbers = λ text. numbers_push old new symbols symbol text (h.numbers text)
        (more text ∙ ap (λ n. if bytes_eq symbol.text text then numbers_of old text ++ n ∷ [] else numbers_of old text) next);
  }

  -- after a text's numbers gained one at the end, at that text and at others
  pub numbers_of-more : (text : List ℕ) (old new : IndexMap (String Y) (Vec ℕ Z) S) (numbers : Vec ℕ Z) (number : ℕ)
      → hash.UpdatesBy string_eq (λ k. bytes_eq text (string_bytes k)) old new (Some numbers)
      → numbers.items ≡ numbers_of old text ++ number ∷ [] → (bytes : List ℕ)
      → numbers_of new bytes ≡ (if bytes_eq text bytes then numbers_of old bytes ++ number ∷ [] else numbers_of old bytes)
  numbers_of-more text old new numbers number updates more bytes =
      ap (λ found. option_map_or (λ (v : Vec ℕ Z). v.items) found []) (hash_map_updates_text text old new (Some numbers) updates bytes)
      ∙ by (bytes_eq text bytes) refl
    where
      by : (b : Bool) → bytes_eq text bytes ≡ b
          → option_map_or (λ (v : Vec ℕ Z). v.items) (cond b (Some numbers) (get_by_text old bytes)) []
          ≡ (if b then numbers_of old bytes ++ number ∷ [] else numbers_of old bytes)
      by true is = more ∙ ap (λ t. numbers_of old t ++ number ∷ []) ((bytes_eq-Decides text bytes).0 is)
      by false is = refl

  -- after a text's numbers were written as they were
  pub numbers_of-same : (text : List ℕ) (old new : IndexMap (String Y) (Vec ℕ Z) S) (numbers : Vec ℕ Z)
      → hash.UpdatesBy string_eq (λ k. bytes_eq text (string_bytes k)) old new (Some numbers)
      → numbers.items ≡ numbers_of old text → (bytes : List ℕ) → numbers_of new bytes ≡ numbers_of old bytes
  numbers_of-same text old new numbers updates same bytes =
      ap (λ found. option_map_or (λ (v : Vec ℕ Z). v.items) found []) (hash_map_updates_text text old new (Some numbers) updates bytes)
      ∙ by (bytes_eq text bytes) refl
    where
      by : (b : Bool) → bytes_eq text bytes ≡ b
          → option_map_or (λ (v : Vec ℕ Z). v.items) (cond b (Some numbers) (get_by_text old bytes)) [] ≡ numbers_of old bytes
      by true is = same ∙ ap (λ t. numbers_of old t) ((bytes_eq-Decides text bytes).0 is)
      by false is = refl

  -- what is found at a text are its numbers
  pub numbers_of-found : (text : List ℕ) (by_text : IndexMap (String Y) (Vec ℕ Z) S) (numbers : Vec ℕ Z)
      → Some numbers ≡ get_by_text by_text text → numbers.items ≡ numbers_of by_text text
  numbers_of-found text by_text numbers is = ap (λ found. option_map_or (λ (v : Vec ℕ Z). v.items) found []) is

  pub numbers_of-absent : (text : List ℕ) (by_text : IndexMap (String Y) (Vec ℕ Z) S)
      → None ≡ get_by_text by_text text → [] ≡ numbers_of by_text text
  numbers_of-absent text by_text is = ap (λ found. option_map_or (λ (v : Vec ℕ Z). v.items) found []) is

-- a row that stands in the rows is the symbol that stands there
row_stands : (rows : List Row) (n : ℕ) (row : Row) (symbol : Symbol) → row ≡ get_or rows n row → slice_get (map symbol_of rows) n ≡ Some symbol
    → symbol_of row ≡ symbol
row_stands rows n row symbol is stands =
    let within : n < length rows = omega (arith, slice_get_within (map symbol_of rows) n symbol stands, length-map rows symbol_of) in
    let mapped : n < length (map symbol_of rows) = omega (arith, length-map rows symbol_of) in
    let same : Some (symbol_of row) ≡ Some symbol =
    ap Some (ap symbol_of is ∙ sym (get_or-map symbol_of rows n row (symbol_of row) within))
    ∙ sym (slice_get-get_or (map symbol_of rows) n (symbol_of row) mapped) ∙ stands in
    cc

-- a row of the text, the arity and the kind is the symbol of these
pub row_found : (rows : List Row) (n : ℕ) (row : Row) (text : List ℕ) (arity : ℕ) (kind : Kind) → HasText (map symbol_of rows) text n
    → row ≡ get_or rows n row → row.arity ≡ arity → row.kind ≡ kind
    → slice_get (map symbol_of rows) n ≡ Some (record { text = text; arity = arity; kind = kind })
row_found rows n row text arity kind h is same_arity same_kind =
    let same = row_stands rows n row h.symbol is h.stands in
    let same_text : string_bytes row.text ≡ text = ap (λ (s : Symbol). s.text) same ∙ h.same_text in
    let parts : symbol_of row ≡ record { text = text; arity = arity; kind = kind } = cc in
    h.stands ∙ ap Some (sym same ∙ parts)

-- a row that is a symbol has its arity and its kind
pub row_arity : (rows : List Row) (n : ℕ) (row : Row) (symbol : Symbol) → row ≡ get_or rows n row → slice_get (map symbol_of rows) n ≡ Some symbol
    → row.arity ≡ symbol.arity
row_arity rows n row symbol is stands = ap (λ (s : Symbol). s.arity) (row_stands rows n row symbol is stands)

pub row_kind : (rows : List Row) (n : ℕ) (row : Row) (symbol : Symbol) → row ≡ get_or rows n row → slice_get (map symbol_of rows) n ≡ Some symbol
    → row.kind ≡ symbol.kind
row_kind rows n row symbol is stands = ap (λ (s : Symbol). s.kind) (row_stands rows n row symbol is stands)

-- the rows with one more row are the symbols with one more
pub symbols-push : (rows more : List Row) (row : Row) (text : List ℕ) → more ≡ rows ++ row ∷ [] → string_bytes row.text ≡ text
    → map symbol_of more ≡ map symbol_of rows ++ record { text = text; arity = row.arity; kind = row.kind } ∷ []
symbols-push rows more row text is same_text =
    ap (map symbol_of) is ∙ map_push symbol_of rows row
    ∙ ap (λ t. map symbol_of rows ++ record { text = t; arity = row.arity; kind = row.kind } ∷ []) same_text

-- a new symbol gets the next number
pub Numbers-new : (old now new : List Symbol) (symbol : Symbol) (number : ℕ) → old ≡ now → new ≡ old ++ symbol ∷ [] → number ≡ length now
    → ¬ Contains now symbol → Numbers now new symbol number
Numbers-new old now new symbol number same is next absent =
    let grown : new ≡ now ++ symbol ∷ [] = is ∙ ap (λ symbols. symbols ++ symbol ∷ []) same in
    record {
      stands = ap (λ symbols. slice_get symbols number) grown ∙ ap (slice_get (now ++ symbol ∷ [])) next ∙ slice_get-last now symbol;
      grows = inr (grown, absent);
    }
