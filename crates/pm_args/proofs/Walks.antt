-- The walk over the words, against what the words are read as.
use Rattle.std.proofs.Common.{◌≡◌, ◌∙◌, ◌==◌, ℕ, Bool, true, false, List, [], ◌∷◌, ◌++◌, ◌||◌, refl, sym, ap, subst, codes, Option, Some, None, true≢false, append_assoc}
use Rattle.std.proofs.lemmas.List.{append-nil}
use Rattle.std.proofs.lemmas.Bool.Decides.{Decides-eqb}
use Rattle.std.specs.List.{after_first, before_first, fold, list_any}
use Rattle.std.specs.Option.{option_map}
use Rattle.std.specs.Str.{bytes_eq}
use Rattle.clap.specs.Kinds.{Kinds, or_else}
use Rattle.clap.specs.Lexer.{long_of, name_and_value, short_of}
use Rattle.clap.specs.Faults.{react_fault, settle_fault, turn_fault, use_fault, walk_fault}
use Rattle.clap.specs.Walk.{Held, Row, Waiting, Walk, idle, option, positional, first_of, has_row, is_pending, reading_by, settled_rows, used, walked}
use Rattle.clap.specs.declared.error.kind.ErrorKind.{ErrorKind}
use Rattle.clap.specs.declared.error.kind.ErrorKind.TheVariants as kind
use Rattle.pm_args.specs.Words.{Reading, Text, given, takes_next, bad, plain, begins_with_hyphen, is_among, is_equals_sign, option_names, reading_from, value_of, with_option, with_plain, word_of}
use Rattle.pm_args.specs.Inside.Found.{is_stray}
use Rattle.pm_args.proofs.Names.{bytes_same, same_text, bool_cases, never_words}
use Rattle.pm_args.proofs.Rows.{first_of_more, first_of_new, first_of_none, first_of_other, has_row_last, has_row_more, row, set_new, values_at, values_at_other, values_more}
use Rattle.pm_args.proofs.Rules.{by_id, by_index, by_long, option_built, rules, top, words_built, words_by_id}

-- ---- what a word is

abbrev hyphens : Text
hyphens = 45 ∷ 45 ∷ []

pub data Look (word : Text) : Type 0 where
  looks_plain : word_of word ≡ plain → begins_with_hyphen word ≡ false → bytes_eq word hyphens ≡ false → long_of word ≡ None → short_of word ≡ None → Look word
  looks_given : (name value : Text) → is_among option_names name ≡ true → word_of word ≡ given name value → begins_with_hyphen word ≡ true
      → bytes_eq word hyphens ≡ false → long_of word ≡ Some (name, Some value) → Look word
  looks_asking : (name : Text) → is_among option_names name ≡ true → word_of word ≡ takes_next name → begins_with_hyphen word ≡ true
      → bytes_eq word hyphens ≡ false → long_of word ≡ Some (name, None) → Look word
  looks_bad : (name : Text) (value : Option Text) → is_among option_names name ≡ false → word_of word ≡ bad → begins_with_hyphen word ≡ true
      → bytes_eq word hyphens ≡ false → long_of word ≡ Some (name, value) → Look word

look_long : (byte : ℕ) (rest : Text) → Look (45 ∷ 45 ∷ byte ∷ rest)
look_long byte rest = bool_cases (is_among option_names name)
    (λ known. bool_cases (list_any is_equals_sign (byte ∷ rest))
    (λ has. looks_given name (after_first is_equals_sign (byte ∷ rest)) known (rw (known, has) refl) refl refl (rw has refl))
    (λ lacks. looks_asking name known (rw (known, lacks) refl) refl refl (rw lacks refl)))
    (λ unknown. looks_bad name (name_and_value (byte ∷ rest)).1 unknown (rw unknown refl) refl refl refl)
  where
    name : Text
    name = before_first is_equals_sign (byte ∷ rest)

eqb_same : (x y : ℕ) → (x == y) ≡ true → x ≡ y
eqb_same x y = (Decides-eqb x y).0

pub look : (word : Text) → is_stray word ≡ false → Look word
look [] clear = looks_plain refl refl refl refl refl
look (first ∷ rest) clear = go (first == 45) refl clear
  where
    other : (first == 45) ≡ false → Look (first ∷ rest)
    other e = looks_plain (rw e refl) e (rw e refl) (rw e refl) (rw e refl)

    second : (tail : Text) → (first == 45) ≡ true → is_stray (first ∷ tail) ≡ false → Look (first ∷ tail)
    second [] e clear = absurd (true≢false (rw e at clear))
    second (next ∷ []) e clear = absurd (true≢false (rw e at clear))
    second (next ∷ byte ∷ more) e clear = bool_cases (next == 45)
        (λ is. rw (eqb_same first 45 e, eqb_same next 45 is) (look_long byte more))
        (λ differs. absurd (true≢false (rw (e, differs) at clear)))

    go : (b : Bool) → (first == 45) ≡ b → is_stray (first ∷ rest) ≡ false → Look (first ∷ rest)
    go true e clear = second rest e clear
    go false e clear = other e

-- ---- one word

-- no option waits for a value
abbrev pub IsOpen : Waiting → Type 0
IsOpen (option name) = ⊥
IsOpen _ = Unit {0}

abbrev pub held : List Row → Option (Text × List Text) → Held
held rows pending = record { rows = rows; pending = pending; skip = 0 }

abbrev pub at : List Row → Option (Text × List Text) → Waiting → Walk
at rows pending waiting = record {
  held = held rows pending;
  waiting = waiting;
  position = 1;
  is_trailing = false;
  stopped = None;
}

pub or_nothing : (kinds : Kinds) → or_else kinds [] ≡ kinds
or_nothing [] = refl
or_nothing (k ∷ ks) = refl

module _ (rows : List Row) (pending : Option (Text × List Text)) (word : Text) (split : bytes_eq word hyphens ≡ false) where
  turn_given : (waiting : Waiting) (name value : Text) → is_among option_names name ≡ true → long_of word ≡ Some (name, Some value)
      → turn_fault top [] (at rows pending waiting) word ≡ react_fault rules false (option_built name) (value ∷ []) (held rows pending)
  turn_given idle name value known long = rw (split, long, by_long name, known) (or_nothing _)
  turn_given positional name value known long = rw (split, long, by_long name, known) (or_nothing _)
  turn_given (option id) name value known long = rw (split, long, by_long name, known) (or_nothing _)

  turn_asking : (waiting : Waiting) (name : Text) → is_among option_names name ≡ true → long_of word ≡ Some (name, None)
      → turn_fault top [] (at rows pending waiting) word ≡ settle_fault rules false (held rows pending)
  turn_asking idle name known long = rw (split, long, by_long name, known) (or_nothing _)
  turn_asking positional name known long = rw (split, long, by_long name, known) (or_nothing _)
  turn_asking (option id) name known long = rw (split, long, by_long name, known) (or_nothing _)

  turn_bad : (waiting : Waiting) (name : Text) (value : Option Text) → is_among option_names name ≡ false → long_of word ≡ Some (name, value)
      → turn_fault top [] (at rows pending waiting) word ≡ kind.UnknownArgument ∷ []
  turn_bad idle name value unknown long = rw (split, long, by_long name, unknown) refl
  turn_bad positional name value unknown long = rw (split, long, by_long name, unknown) refl
  turn_bad (option id) name value unknown long = rw (split, long, by_long name, unknown) refl

  turn_plain : (waiting : Waiting) → IsOpen waiting → long_of word ≡ None → short_of word ≡ None
      → turn_fault top [] (at rows pending waiting) word ≡ settle_fault rules false (held rows pending)
  turn_plain idle is_open long short = bool_cases (is_pending words_built pending) (λ e. rw (split, long, short, by_index, e) refl) (λ e. rw (split, long, short, by_index, e) refl)
  turn_plain positional is_open long short = bool_cases (is_pending words_built pending) (λ e. rw (split, long, short, by_index, e) refl) (λ e. rw (split, long, short, by_index, e) refl)
  turn_plain (option id) is_open long short = absurd is_open

  next_given : (waiting : Waiting) (name value : Text) → is_among option_names name ≡ true → long_of word ≡ Some (name, Some value)
      → walked rules [] (at rows pending waiting) word ≡ at (used (option_built name) (value ∷ []) (settled_rows rules pending rows)) None idle
  unfolding walked
  next_given idle name value known long = rw (split, long, by_long name, known) refl
  next_given positional name value known long = rw (split, long, by_long name, known) refl
  next_given (option id) name value known long = rw (split, long, by_long name, known) refl

  next_asking : (waiting : Waiting) (name : Text) → is_among option_names name ≡ true → long_of word ≡ Some (name, None)
      → walked rules [] (at rows pending waiting) word ≡ at (settled_rows rules pending rows) (Some (name, [])) (option name)
  unfolding walked
  next_asking idle name known long = rw (split, long, by_long name, known) refl
  next_asking positional name known long = rw (split, long, by_long name, known) refl
  next_asking (option id) name known long = rw (split, long, by_long name, known) refl

  next_plain : (waiting : Waiting) → IsOpen waiting → long_of word ≡ None → short_of word ≡ None
      → walked rules [] (at rows pending waiting) word ≡ at (settled_rows rules pending rows) (Some (codes "words", word ∷ [])) positional
  unfolding walked
  next_plain idle is_open long short = bool_cases (is_pending words_built pending) (λ e. rw (split, long, short, by_index, e) refl) (λ e. rw (split, long, short, by_index, e) refl)
  next_plain positional is_open long short = bool_cases (is_pending words_built pending) (λ e. rw (split, long, short, by_index, e) refl) (λ e. rw (split, long, short, by_index, e) refl)
  next_plain (option id) is_open long short = absurd is_open

-- the word that an option waits for
module _ (rows : List Row) (word name : Text) (split : bytes_eq word hyphens ≡ false) (known : is_among option_names name ≡ true)
    (long : long_of word ≡ None) (short : short_of word ≡ None) where
  turn_value : turn_fault top [] (at rows (Some (name, [])) (option name)) word ≡ []
  turn_value = rw (split, long, short) refl

  next_value : walked rules [] (at rows (Some (name, [])) (option name)) word ≡ at rows (Some (name, word ∷ [])) idle
  unfolding walked
  next_value = rw (split, long, short, by_id name known, bytes_same name) refl

-- ---- all words

-- all faults of the walk from a state, that of the argument that is pending at its end included
abbrev pub faults : List Text → Walk → Kinds
faults words w = or_else (walk_fault top [] w words) (settle_fault rules false (fold (walked rules []) w words).held)

-- the rows at the end of the walk, with the argument that is pending
abbrev pub rows_after : List Text → Walk → List Row
rows_after words w = settled_rows rules (fold (walked rules []) w words).held.pending (fold (walked rules []) w words).held.rows

-- a word without fault
faults_on : (word : Text) (words : List Text) (w next : Walk) → turn_fault top [] w word ≡ [] → walked rules [] w word ≡ next → faults (word ∷ words) w ≡ faults words next
unfolding walk_fault
faults_on word words w next clean is = rw clean (ap (faults words) is)

rows_on : (word : Text) (words : List Text) (w next : Walk) → walked rules [] w word ≡ next → rows_after (word ∷ words) w ≡ rows_after words next
rows_on word words w next is = ap (rows_after words) is

front_empty : (a b : Kinds) → or_else a b ≡ [] → a ≡ []
front_empty [] b e = refl
front_empty (k ∷ ks) b e = e

-- a word at fault
faults_stop : (word : Text) (words : List Text) (w : Walk) → (turn_fault top [] w word ≡ [] → ⊥) → faults (word ∷ words) w ≡ [] → ⊥
unfolding walk_fault
faults_stop word words w fails none = fails (front_empty _ _ (front_empty _ _ none))

-- what the options so far are, in the rows
pub record Agrees (rows : List Row) (names : List Text) : Type 0 where
  pub known : (name : Text) → is_among option_names name ≡ true → has_row name rows ≡ is_among names name

-- the first of two, if there is one
abbrev pub either : Option Text → Option Text → Option Text
either (Some a) b = Some a
either None b = b

-- what the reading adds to the rows
pub record Adds (rows : List Row) (r : Reading) (after : List Row) : Type 0 where
  pub options : (name : Text) → is_among option_names name ≡ true → first_of name after ≡ either (first_of name rows) (value_of name r)
  pub plain : values_at (codes "words") after ≡ values_at (codes "words") rows ++ r.plain

pub data Verdict (words : List Text) (w : Walk) (rows : List Row) (reading : Option Reading) : Type 0 where
  reads : (r : Reading) → reading ≡ Some r → faults words w ≡ [] → Adds rows r (rows_after words w) → Verdict words w rows reading
  fails : reading ≡ None → (faults words w ≡ [] → ⊥) → Verdict words w rows reading

-- a verdict on the words after one that is read without fault
go_on : (word : Text) (words : List Text) (w next : Walk) (rows after : List Row) (rest whole : Option Reading) (with : Reading → Reading)
    → turn_fault top [] w word ≡ [] → walked rules [] w word ≡ next → whole ≡ option_map with rest
    → ((r : Reading) (end : List Row) → Adds after r end → Adds rows (with r) end)
    → Verdict words next after rest → Verdict (word ∷ words) w rows whole
go_on word words w next rows after rest whole with clean is read adds (reads r e none adds_r) =
    reads (with r) (read ∙ ap (option_map with) e) (faults_on word words w next clean is ∙ none)
    (subst (λ (end : List Row). Adds rows (with r) end) (sym (rows_on word words w next is)) (adds r _ adds_r))
go_on word words w next rows after rest whole with clean is read adds (fails e some) =
    fails (read ∙ ap (option_map with) e) (λ none. some (sym (faults_on word words w next clean is) ∙ none))

-- ---- the rows after one word

add_option : (rows : List Row) (name value : Text) → has_row name rows ≡ false → used (option_built name) (value ∷ []) rows ≡ rows ++ row name (reading_by (option_built name)) value ∷ []
add_option rows name value none = set_new name (reading_by (option_built name)) value rows none

agrees_option : (rows : List Row) (names : List Text) (name value : Text) → Agrees rows names → has_row name rows ≡ false
    → Agrees (used (option_built name) (value ∷ []) rows) (name ∷ names)
agrees_option rows names name value agrees none = record {
  known = λ other is. ap (has_row other) (add_option rows name value none)
      ∙ has_row_last other rows (row name (reading_by (option_built name)) value)
      ∙ ap (λ (b : Bool). bytes_eq name other || b) (agrees.known other is);
}

agrees_word : (rows : List Row) (names : List Text) (word : Text) → Agrees rows names → Agrees (used words_built (word ∷ []) rows) names
agrees_word rows names word agrees = record {
  known = λ other is. has_row_more (codes "words") other (reading_by words_built) word rows (never_words other is) ∙ agrees.known other is;
}

adds_option : (rows : List Row) (name value : Text) (r : Reading) (after : List Row) → is_among option_names name ≡ true → has_row name rows ≡ false
    → Adds (used (option_built name) (value ∷ []) rows) r after → Adds rows (with_option name value r) after
adds_option rows name value r after known none adds = record {
  options = λ other is. adds.options other is ∙ ap (λ (l : List Row). either (first_of other l) (value_of other r)) (add_option rows name value none)
      ∙ bool_cases (bytes_eq name other) (here other) (there other);
  plain = adds.plain ∙ ap (λ (l : List Row). values_at (codes "words") l ++ r.plain) (add_option rows name value none)
      ∙ ap (λ (l : List Text). l ++ r.plain) (values_at_other (codes "words") rows new differs);
}
  where
    new : Row
    new = row name (reading_by (option_built name)) value

    differs : bytes_eq name (codes "words") ≡ false
    differs = bool_cases (bytes_eq name (codes "words"))
        (λ e. absurd (true≢false (sym (bytes_same (codes "words")) ∙ ap (bytes_eq (codes "words")) (sym (same_text name (codes "words") e)) ∙ never_words name known)))
        (λ e. e)

    here : (other : Text) → bytes_eq name other ≡ true
        → either (first_of other (rows ++ new ∷ [])) (value_of other r) ≡ either (first_of other rows) (value_of other (with_option name value r))
    here other e = rw (e, ← same_text name other e, first_of_none name rows none, first_of_new name (reading_by (option_built name)) value rows none) refl

    there : (other : Text) → bytes_eq name other ≡ false
        → either (first_of other (rows ++ new ∷ [])) (value_of other r) ≡ either (first_of other rows) (value_of other (with_option name value r))
    there other e = rw e (ap (λ (o : Option Text). either o (value_of other r)) (first_of_other other rows new e))

adds_word : (rows : List Row) (word : Text) (r : Reading) (after : List Row) → Adds (used words_built (word ∷ []) rows) r after → Adds rows (with_plain word r) after
adds_word rows word r after adds = record {
  options = λ other is. adds.options other is
      ∙ ap (λ (o : Option Text). either o (value_of other r)) (first_of_more (codes "words") other (reading_by words_built) word rows (never_words other is));
  plain = adds.plain ∙ ap (λ (l : List Text). l ++ r.plain) (values_more (codes "words") (reading_by words_built) word rows)
      ∙ append_assoc (values_at (codes "words") rows) (word ∷ []) r.plain;
}

-- ---- the verdict on all words

abbrev pub AllClear : List Text → Type 0
AllClear [] = Unit {0}
AllClear (word ∷ words) = (is_stray word ≡ false) × AllClear words

-- the pending argument of a state between options, and the rows with it
pub record Settles (rows : List Row) (pending : Option (Text × List Text)) (after : List Row) : Type 0 where
  pub clean : settle_fault rules false (held rows pending) ≡ []
  pub rows_are : settled_rows rules pending rows ≡ after

module _ (rows : List Row) (names : List Text) (agrees : Agrees rows names) where
  pub settles_none : Settles rows None rows
  settles_none = record { clean = refl; rows_are = refl }

  settles_word : (word : Text) → Settles rows (Some (codes "words", word ∷ [])) (used words_built (word ∷ []) rows)
  settles_word word = record { clean = rw words_by_id refl; rows_are = rw words_by_id refl }

  use_new : (name value : Text) → has_row name rows ≡ false → use_fault false (option_built name) (value ∷ []) rows ≡ []
  use_new name value none = rw none refl

  use_again : (name value : Text) → has_row name rows ≡ true → use_fault false (option_built name) (value ∷ []) rows ≡ kind.ArgumentConflict ∷ []
  use_again name value some = rw some refl

  settles_value : (name value : Text) → is_among option_names name ≡ true → has_row name rows ≡ false
      → Settles rows (Some (name, value ∷ [])) (used (option_built name) (value ∷ []) rows)
  settles_value name value known none = record { clean = rw (by_id name known) (use_new name value none); rows_are = rw (by_id name known) refl }

  spoils : (word name : Text) → is_among option_names name ≡ true → has_row name rows ≡ true
      → settle_fault rules false (held rows (Some (name, word ∷ []))) ≡ kind.ArgumentConflict ∷ []
  spoils word name known some = rw (by_id name known) (use_again name word some)

some_kind : (k : ErrorKind) (kinds : Kinds) → kinds ≡ k ∷ [] → kinds ≡ [] → ⊥
some_kind k kinds is none = cc

-- where the pending argument is at fault, so is the walk
spoilt : (words : List Text) (rows : List Row) (pending : Option (Text × List Text)) (waiting : Waiting) → IsOpen waiting → AllClear words
    → (settle_fault rules false (held rows pending) ≡ [] → ⊥) → faults words (at rows pending waiting) ≡ [] → ⊥
unfolding walk_fault
spoilt [] rows pending waiting is_open clear wrong = wrong
spoilt (word ∷ words) rows pending waiting is_open clear wrong = faults_stop word words (at rows pending waiting) (by (look word clear.0))
  where
    by : Look word → turn_fault top [] (at rows pending waiting) word ≡ [] → ⊥
    by (looks_plain is hyphen split long short) none = wrong (sym (turn_plain rows pending word split waiting is_open long short) ∙ none)
    by (looks_given name value known is hyphen split long) none = wrong (front_empty _ _ (sym (turn_given rows pending word split waiting name value known long) ∙ none))
    by (looks_asking name known is hyphen split long) none = wrong (sym (turn_asking rows pending word split waiting name known long) ∙ none)
    by (looks_bad name value unknown is hyphen split long) none = some_kind _ _ (turn_bad rows pending word split waiting name value unknown long) none

-- an option that waits is at fault where no value follows
no_value : (rows : List Row) (name : Text) → is_among option_names name ≡ true → settle_fault rules false (held rows (Some (name, []))) ≡ kind.InvalidValue ∷ []
no_value rows name known = rw (by_id name known) refl

no_value_word : (rows : List Row) (name word : Text) → is_among option_names name ≡ true → Look word → begins_with_hyphen word ≡ true
    → turn_fault top [] (at rows (Some (name, [])) (option name)) word ≡ [] → ⊥
no_value_word rows name word known (looks_plain is hyphen split long short) begins none = absurd (true≢false (sym begins ∙ hyphen))
no_value_word rows name word known (looks_given other value is_name is hyphen split long) begins none =
    some_kind _ _ (no_value rows name known) (front_empty _ _ (sym (turn_given rows (Some (name, [])) word split (option name) other value is_name long) ∙ none))
no_value_word rows name word known (looks_asking other is_name is hyphen split long) begins none =
    some_kind _ _ (no_value rows name known) (sym (turn_asking rows (Some (name, [])) word split (option name) other is_name long) ∙ none)
no_value_word rows name word known (looks_bad other value unknown is hyphen split long) begins none =
    some_kind _ _ (turn_bad rows (Some (name, [])) word split (option name) other value unknown long) none

-- a verdict on the words after one that changes nothing of what was read
go_same : (word : Text) (words : List Text) (w next : Walk) (rows : List Row) (rest whole : Option Reading)
    → turn_fault top [] w word ≡ [] → walked rules [] w word ≡ next → whole ≡ rest → Verdict words next rows rest → Verdict (word ∷ words) w rows whole
go_same word words w next rows rest whole clean is read (reads r e none adds) =
    reads r (read ∙ e) (faults_on word words w next clean is ∙ none) (subst (Adds rows r) (sym (rows_on word words w next is)) adds)
go_same word words w next rows rest whole clean is read (fails e some) = fails (read ∙ e) (λ none. some (sym (faults_on word words w next clean is) ∙ none))

either_none : (o : Option Text) → o ≡ either o None
either_none None = refl
either_none (Some t) = refl

adds_nothing : (rows : List Row) → Adds rows (record { options = []; plain = [] }) rows
adds_nothing rows = record { options = λ name is. either_none (first_of name rows); plain = sym (append-nil (values_at (codes "words") rows)) }

module _ (after : List Row) (names : List Text) (agrees : Agrees after names) (rows : List Row) (pending : Option (Text × List Text)) (settles : Settles rows pending after) where
  react_new : (name value : Text) → has_row name after ≡ false → react_fault rules false (option_built name) (value ∷ []) (held rows pending) ≡ []
  react_new name value none = rw (settles.clean, settles.rows_are) (use_new after names agrees name value none)

  react_again : (name value : Text) → has_row name after ≡ true → react_fault rules false (option_built name) (value ∷ []) (held rows pending) ≡ kind.ArgumentConflict ∷ []
  react_again name value some = rw (settles.clean, settles.rows_are) (use_again after names agrees name value some)

-- the verdicts on the words from a state between options, and from one in which an option waits
abbrev ReadyOn : List Text → Type 0
ReadyOn words = (rows after : List Row) (pending : Option (Text × List Text)) (waiting : Waiting) (names : List Text) → IsOpen waiting
    → Settles rows pending after → Agrees after names → Verdict words (at rows pending waiting) after (reading_from words None names)

abbrev AsksOn : List Text → Type 0
AsksOn words = (name : Text) (rows : List Row) (names : List Text) → is_among option_names name ≡ true → Agrees rows names
    → Verdict words (at rows (Some (name, [])) (option name)) rows (reading_from words (Some name) names)

by_look : (word : Text) (words : List Text) → ReadyOn words → AsksOn words → (rows after : List Row) (pending : Option (Text × List Text)) (waiting : Waiting) (names : List Text) → IsOpen waiting
    → Settles rows pending after → Agrees after names → Look word
    → Verdict (word ∷ words) (at rows pending waiting) after (reading_from (word ∷ words) None names)
unfolding reading_from
by_look word words later asked rows after pending waiting names is_open settles agrees (looks_plain is hyphen split long short) =
    go_on word words _ (at after (Some (codes "words", word ∷ [])) positional) after (used words_built (word ∷ []) after) (reading_from words None names) _ (with_plain word)
    (turn_plain rows pending word split waiting is_open long short ∙ settles.clean)
    (next_plain rows pending word split waiting is_open long short ∙ ap (λ (l : List Row). at l (Some (codes "words", word ∷ [])) positional) settles.rows_are)
    (rw is refl)
    (adds_word after word)
    (later after (used words_built (word ∷ []) after) (Some (codes "words", word ∷ [])) positional names tt
    (settles_word after names agrees word) (agrees_word after names word agrees))
by_look word words later asked rows after pending waiting names is_open settles agrees (looks_given name value known is hyphen split long) =
    bool_cases (has_row name after)
    (λ some. fails (rw (is, sym (agrees.known name known) ∙ some) refl)
    (faults_stop word words _ (some_kind kind.ArgumentConflict _ (turn_given rows pending word split waiting name value known long
    ∙ react_again after names agrees rows pending settles name value some))))
    (λ none. go_on word words _ (at (used (option_built name) (value ∷ []) after) None idle) after (used (option_built name) (value ∷ []) after)
    (reading_from words None (name ∷ names)) _ (with_option name value)
    (turn_given rows pending word split waiting name value known long ∙ react_new after names agrees rows pending settles name value none)
    (next_given rows pending word split waiting name value known long ∙ ap (λ (l : List Row). at (used (option_built name) (value ∷ []) l) None idle) settles.rows_are)
    (rw (is, sym (agrees.known name known) ∙ none) refl)
    (λ r end. adds_option after name value r end known none)
    (later (used (option_built name) (value ∷ []) after) (used (option_built name) (value ∷ []) after) None idle (name ∷ names) tt
    (settles_none _ (name ∷ names) (agrees_option after names name value agrees none)) (agrees_option after names name value agrees none)))
by_look word words later asked rows after pending waiting names is_open settles agrees (looks_asking name known is hyphen split long) =
    go_same word words _ (at after (Some (name, [])) (option name)) after (reading_from words (Some name) names) _
    (turn_asking rows pending word split waiting name known long ∙ settles.clean)
    (next_asking rows pending word split waiting name known long ∙ ap (λ (l : List Row). at l (Some (name, [])) (option name)) settles.rows_are)
    (rw is refl)
    (asked name after names known agrees)
by_look word words later asked rows after pending waiting names is_open settles agrees (looks_bad name value unknown is hyphen split long) =
    fails (rw is refl) (faults_stop word words _ (some_kind _ _ (turn_bad rows pending word split waiting name value unknown long)))

by_value : (word : Text) (words : List Text) → ReadyOn words → AllClear words → (name : Text) (rows : List Row) (names : List Text) → is_among option_names name ≡ true → Agrees rows names
    → Look word → (b : Bool) → begins_with_hyphen word ≡ b
    → Verdict (word ∷ words) (at rows (Some (name, [])) (option name)) rows (reading_from (word ∷ words) (Some name) names)
unfolding reading_from
by_value word words later clear name rows names known agrees looks true begins =
    fails (rw begins refl) (faults_stop word words _ (no_value_word rows name word known looks begins))
by_value word words later clear name rows names known agrees (looks_plain is hyphen split long short) false begins =
    bool_cases (has_row name rows)
    (λ some. fails (rw (begins, sym (agrees.known name known) ∙ some) refl)
    (λ none. spoilt words rows (Some (name, word ∷ [])) idle tt clear
    (some_kind _ _ (spoils rows names agrees word name known some))
    (sym (faults_on word words _ _ (turn_value rows word name split known long short) (next_value rows word name split known long short)) ∙ none)))
    (λ none. go_on word words _ (at rows (Some (name, word ∷ [])) idle) rows (used (option_built name) (word ∷ []) rows)
    (reading_from words None (name ∷ names)) _ (with_option name word)
    (turn_value rows word name split known long short)
    (next_value rows word name split known long short)
    (rw (begins, sym (agrees.known name known) ∙ none) refl)
    (λ r end. adds_option rows name word r end known none)
    (later rows (used (option_built name) (word ∷ []) rows) (Some (name, word ∷ [])) idle (name ∷ names) tt
    (settles_value rows names agrees name word known none) (agrees_option rows names name word agrees none)))
by_value word words later clear name rows names known agrees (looks_given other value is_name is hyphen split long) false begins = absurd (true≢false (sym hyphen ∙ begins))
by_value word words later clear name rows names known agrees (looks_asking other is_name is hyphen split long) false begins = absurd (true≢false (sym hyphen ∙ begins))
by_value word words later clear name rows names known agrees (looks_bad other value unknown is hyphen split long) false begins = absurd (true≢false (sym hyphen ∙ begins))

mutual
  unfolding walk_fault reading_from

  pub ready : (words : List Text) → AllClear words → ReadyOn words
  ready [] clear rows after pending waiting names is_open settles agrees =
      reads (record { options = []; plain = [] }) refl settles.clean (subst (Adds after (record { options = []; plain = [] })) (sym settles.rows_are) (adds_nothing after))
  ready (word ∷ words) clear rows after pending waiting names is_open settles agrees =
      by_look word words (ready words clear.1) (asks words clear.1) rows after pending waiting names is_open settles agrees (look word clear.0)

  asks : (words : List Text) → AllClear words → AsksOn words
  asks [] clear name rows names known agrees = fails refl (some_kind _ _ (no_value rows name known))
  asks (word ∷ words) clear name rows names known agrees =
      by_value word words (ready words clear.1) clear.1 name rows names known agrees (look word clear.0) (begins_with_hyphen word) refl
