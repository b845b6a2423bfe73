-- The words of a line of whole words are these words.
use Rattle.std.proofs.Common.{◌≡◌, ◌∙◌, ℕ, suc, ◌+◌, ◌%◌, ◌^◌, ◌<◌, ◌≤◌, ◌==◌, ◌&&◌, ◌||◌, not, Bool, true, false, cond, List, [], ◌∷◌, ◌++◌, length, take, drop, map, refl, sym, ap, arith, decimal, true≢false, rules, tests}
use Rattle.std.specs.List.{All, list_all, onto_first, flat_map}
use Rattle.std.specs.Char.{is_ascii_lowercase}
use Rattle.std.proofs.lemmas.List.Folds.{list_all-append}
use Rattle.std.proofs.lemmas.Fmt.{decimal_by_steps}
use Rattle.pm_logic.specs.declared.symbols.Kind.{Kind}
use Rattle.pm_logic.specs.declared.symbols.Kind.TheVariants as kinds
use Rattle.pm_logic.specs.Problem.{Symbol}
use Rattle.pm_logic.specs.Word.{is_word_byte, is_lower_word, escaped, quoted, written_word, written_as, written_symbol}
use Rattle.pm_certread.specs.declared.words.Place.{Place}
use Rattle.pm_certread.specs.declared.words.Place.TheVariants.{Outside, Quoted}
use Rattle.pm_certread.specs.Lines.{spaced, ended}
use Rattle.pm_certread.specs.Inside.Words.{next_place, parts, words_from, words_of, first_length}
use Rattle.pm_certread.specs.Inside.Wholes.{IsWholeFrom, IsWhole, AreWhole}

-- ---- cutting

pub cut_word : (place : Place) (bs : List ℕ) → first_length place bs < length bs
    → words_from place bs ≡ take (first_length place bs) bs ∷ words_of (drop (suc (first_length place bs)) bs)
cut_word place [] lt = absurd (omega arith)
cut_word place (b ∷ bs) lt = go (parts place b) (cut_word (next_place place b) bs) lt
  where
    go : (p : Bool)
        → (first_length (next_place place b) bs < length bs → words_from (next_place place b) bs ≡ take (first_length (next_place place b) bs) bs ∷ words_of (drop (suc (first_length (next_place place b) bs)) bs))
        → cond p 0 (suc (first_length (next_place place b) bs)) < suc (length bs)
        → cond p ([] ∷ words_of bs) (onto_first b (words_from (next_place place b) bs))
        ≡ take (cond p 0 (suc (first_length (next_place place b) bs))) (b ∷ bs) ∷ words_of (drop (suc (cond p 0 (suc (first_length (next_place place b) bs)))) (b ∷ bs))
    go true later lt = refl
    go false later lt = ap (onto_first b) (later (omega arith))

pub last_word : (place : Place) (bs : List ℕ) → length bs ≤ first_length place bs → words_from place bs ≡ bs ∷ []
last_word place [] le = refl
last_word place (b ∷ bs) le = go (parts place b) (last_word (next_place place b) bs) le
  where
    go : (p : Bool)
        → (length bs ≤ first_length (next_place place b) bs → words_from (next_place place b) bs ≡ bs ∷ [])
        → suc (length bs) ≤ cond p 0 (suc (first_length (next_place place b) bs))
        → cond p ([] ∷ words_of bs) (onto_first b (words_from (next_place place b) bs)) ≡ (b ∷ bs) ∷ []
    go true later le = absurd (omega arith)
    go false later le = ap (onto_first b) (later (omega arith))

-- ---- whole words

whole_first : (place : Place) (w rest : List ℕ) → IsWholeFrom place w → words_from place (w ++ 32 ∷ rest) ≡ w ∷ words_of rest
whole_first place [] rest is = rw is refl
whole_first place (b ∷ w) rest whole = rw whole.0 (ap (onto_first b) (whole_first (next_place place b) w rest whole.1))

whole_last : (place : Place) (w : List ℕ) → IsWholeFrom place w → words_from place w ≡ w ∷ []
whole_last place [] is = refl
whole_last place (b ∷ w) whole = rw whole.0 (ap (onto_first b) (whole_last (next_place place b) w whole.1))

pub words_of-spaced : (w : List ℕ) (ws : List (List ℕ)) → AreWhole (w ∷ ws) → words_of (spaced (w ∷ ws)) ≡ w ∷ ws
words_of-spaced w [] whole = whole_last Outside w whole.0
words_of-spaced w (v ∷ ws) whole =
    whole_first Outside w (spaced (v ∷ ws)) whole.0
    ∙ ap (λ (l : List (List ℕ)). w ∷ l) (words_of-spaced v ws whole.1)

pub whole_append : (vs ws : List (List ℕ)) → AreWhole vs → AreWhole ws → AreWhole (vs ++ ws)
whole_append [] ws h g = g
whole_append (v ∷ vs) ws h g = (h.0, whole_append vs ws h.1 g)

-- neither a blank nor a quote
abbrev pub is_solid : ℕ → Bool
is_solid byte = not (byte == 32) && not (byte == 39)

pub solid_whole : (w : List ℕ) → list_all is_solid w ≡ true → IsWhole w
solid_whole [] h = refl
solid_whole (b ∷ w) h = go (b == 32) (b == 39) (solid_whole w) h
  where
    go : (p q : Bool) → (list_all is_solid w ≡ true → IsWhole w) → ((not p && not q) && list_all is_solid w) ≡ true
        → (p ≡ false) × IsWholeFrom (cond q Quoted Outside) w
    go true q later e = absurd (true≢false (sym e))
    go false true later e = absurd (true≢false (sym e))
    go false false later e = (refl, later e)

all_append : (p : ℕ → Bool) (xs ys : List ℕ) → list_all p xs ≡ true → list_all p ys ≡ true → list_all p (xs ++ ys) ≡ true
all_append p xs ys hx hy = list_all-append p xs ys ∙ rw hx hy

digit_solid : (d : ℕ) → d < 10 → is_solid (48 + d) ≡ true
digit_solid d small = search (rules, tests)

decimal_solid : (n : ℕ) → n < 2 ^ 64 → list_all is_solid (decimal n) ≡ true
decimal_solid = decimal_by_steps (λ n ds. list_all is_solid ds ≡ true)
    (λ n small. rw (digit_solid n small) refl)
    (λ n ds large h. all_append is_solid ds _ h (rw (digit_solid (n % 10) (omega arith)) refl))

pub decimal_whole : (n : ℕ) → n < 2 ^ 64 → IsWhole (decimal n)
decimal_whole n small = solid_whole (decimal n) (decimal_solid n small)

pub decimals_whole : (ns : List ℕ) → All (λ n. n < 2 ^ 64) ns → AreWhole (map decimal ns)
decimals_whole [] small = tt
decimals_whole (n ∷ ns) small = (decimal_whole n (small 0 0 (omega arith)), decimals_whole ns (λ k d lt. small (suc k) d (omega arith)))

-- bytes of lower words are neither blanks, quotes nor backslashes
abbrev pub is_plain : ℕ → Bool
is_plain byte = not (byte == 39) && not (byte == 92)

word_solid : (b : ℕ) → is_word_byte b ≡ true → is_solid b ≡ true
word_solid b h = search (rules, tests)

pub word_plain : (b : ℕ) → is_word_byte b ≡ true → is_plain b ≡ true
word_plain b h = search (rules, tests)

lower_word : (b : ℕ) → is_ascii_lowercase b ≡ true → is_word_byte b ≡ true
lower_word b h = search (rules, tests)

pub all_words : (text : List ℕ) → is_lower_word text ≡ true → list_all is_word_byte text ≡ true
all_words [] h = refl
all_words (b ∷ bs) h = go (is_ascii_lowercase b) refl h
  where
    go : (p : Bool) → is_ascii_lowercase b ≡ p → (p && list_all is_word_byte bs) ≡ true → (is_word_byte b && list_all is_word_byte bs) ≡ true
    go true is e = rw (lower_word b is) e
    go false is e = absurd (true≢false (sym e))

pub all_impl : (p q : ℕ → Bool) (xs : List ℕ) → ((b : ℕ) → p b ≡ true → q b ≡ true) → list_all p xs ≡ true → list_all q xs ≡ true
all_impl p q [] f h = refl
all_impl p q (b ∷ xs) f h = go (p b) refl (all_impl p q xs f) h
  where
    go : (r : Bool) → p b ≡ r → (list_all p xs ≡ true → list_all q xs ≡ true) → (r && list_all p xs) ≡ true → (q b && list_all q xs) ≡ true
    go true is later e = rw (f b is) (later e)
    go false is later e = absurd (true≢false (sym e))

inside_whole : (text rest : List ℕ) → IsWholeFrom Quoted rest → IsWholeFrom Quoted (flat_map escaped text ++ rest)
inside_whole [] rest h = h
inside_whole (b ∷ text) rest h = go (b == 39) (b == 92) refl refl (inside_whole text rest h)
  where
    go : (p q : Bool) → (b == 39) ≡ p → (b == 92) ≡ q → IsWholeFrom Quoted (flat_map escaped text ++ rest)
        → IsWholeFrom Quoted ((cond (p || q) (92 ∷ b ∷ []) (b ∷ []) ++ flat_map escaped text) ++ rest)
    go true q is is_too later = (refl, (refl, later))
    go false true is is_too later = (refl, (refl, later))
    go false false is is_too later = rw (is, is_too) (refl, later)

quoted_whole : (text : List ℕ) → IsWhole (quoted text)
quoted_whole text = (refl, inside_whole text (39 ∷ []) (refl, refl))

pub written_whole : (text : List ℕ) → IsWhole (written_word text)
written_whole text = go (is_lower_word text) refl
  where
    go : (p : Bool) → is_lower_word text ≡ p → IsWhole (cond p text (quoted text))
    go true is = solid_whole text (all_impl is_word_byte is_solid text word_solid (all_words text is))
    go false is = quoted_whole text

pub symbol_whole : (s : Symbol) → IsWhole (written_symbol s)
symbol_whole s = go s.kind
  where
    go : (kind : Kind) → IsWhole (written_as kind s.text)
    go kinds.Predicate = written_whole s.text
    go kinds.Function = written_whole s.text
    go kinds.Equality = (refl, refl)

-- ---- lines

pub same_line : (line other : List ℕ) → ended line ≡ ended other → line ≡ other
same_line [] [] e = refl
same_line [] (b ∷ other) e = absurd (too_long other cc)
  where
    too_long : (bs : List ℕ) → [] ≡ bs ++ 10 ∷ [] → ⊥
    too_long [] e = absurd cc
    too_long (b ∷ bs) e = absurd cc
same_line (b ∷ line) [] e = absurd (too_long line cc)
  where
    too_long : (bs : List ℕ) → bs ++ 10 ∷ [] ≡ [] → ⊥
    too_long [] e = absurd cc
    too_long (b ∷ bs) e = absurd cc
same_line (b ∷ line) (d ∷ other) e =
    let first : b ≡ d = cc in
    let later : line ≡ other = same_line line other cc in
    cc

-- the words of a line of whole words
pub line_words : (line w : List ℕ) (ws : List (List ℕ)) → AreWhole (w ∷ ws) → ended line ≡ ended (spaced (w ∷ ws)) → words_of line ≡ w ∷ ws
line_words line w ws whole is = ap words_of (same_line line (spaced (w ∷ ws)) is) ∙ words_of-spaced w ws whole
