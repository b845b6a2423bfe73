-- Written words, numbers and marks are read as they were written.
use Rattle.std.proofs.Common.{arith, ◌≡◌, ◌<◌, ◌^◌, ◌+◌, ◌≤◌, ℕ, suc, length, Bool, true, false, cond, eqb, List, [], ◌∷◌, ◌++◌, sym, ap, subst, ◌∙◌, refl, take, drop, append_assoc, length-append, decimal}
use Rattle.std.specs.Prelude.{Some, IsTrue, if◌then◌else◌, ◌&&◌, ◌||◌, ◌==◌}
use Rattle.std.specs.List.{AllByRecursion, list_all, prefix_len, flat_map}
use Rattle.std.specs.Char.{is_ascii_digit, is_ascii_lowercase, is_ascii_uppercase}
use Rattle.std.specs.Str.Parse.{AllDigits}
use Rattle.std.proofs.lemmas.Bool.{and_parts}
use Rattle.std.proofs.lemmas.Bool.Decides.{nat_tests}
use Rattle.std.proofs.lemmas.Fmt.{decimal_is_IsNumeral_wide}
use Rattle.std.proofs.lemmas.Str.Parse.{digit_from_value}
use Rattle.std.proofs.lemmas.List.Elements.{recursion_from_All}
use Rattle.std.proofs.Math.Seq.{take-append_seam, drop-append_seam}
use Rattle.pm_logic.specs.Problem.{IsPrintable}
use Rattle.pm_logic.specs.Word as words
use Rattle.pm_logic.specs.Word.{is_word_byte, is_lower_word, escaped, written_word}
use Rattle.pm_scan.specs.Lexemes.{Token, lower, upper, number, quoted, Lexeme, gap, token, begins, is_blank, is_slash, is_star, is_sign, sign_len, digits_len, begins_number, integer_len, fraction_len, exponent_len, decimal_len, number_len, is_plain_byte, closed, later, ending, text_of, between_marks, quoted_word, quoted_at, word_at, lexeme_at, Lexes, tokens_in}
use Rattle.pm_cnf.specs.Grammar.{Word, bare, between_quotes, word_token}
use Rattle.pm_write.specs.Text.{variable_text}
use Rattle.pm_scan.proofs.Scanning.{prefix_len-yes, prefix_len-no, and_no-first, quoted_word-some}
use Rattle.pm_cnf.proofs.offences.Within.{HasNoFault}
use Rattle.pm_scan.proofs.Forms.{text_of-plain}

-- lexemes lead from the bytes to the rest, without a fault, and these are their tokens
pub record HasTokens (bytes : List ℕ) (tokens : List Token) (rest : List ℕ) : Type 0 where
  pub lexemes : List Lexeme
  pub leads : Lexes lexemes bytes rest
  pub are : tokens_in lexemes ≡ tokens
  pub faultless : HasNoFault lexemes

pub reads_nothing : (rest : List ℕ) → HasTokens rest [] rest
reads_nothing rest = record { lexemes = []; leads = refl; are = refl; faultless = tt }

-- one token, and what is read from behind it
pub reads_token : (bytes middle rest : List ℕ) (t : Token) (ts : List Token) (n : ℕ) → lexeme_at bytes ≡ Some (token t, n) → drop n bytes ≡ middle → HasTokens middle ts rest → HasTokens bytes (t ∷ ts) rest
reads_token bytes middle rest t ts n at behind more = record {
  lexemes = token t ∷ more.lexemes;
  leads = (n, at, subst (λ (b : List ℕ). Lexes more.lexemes b rest) (sym behind) more.leads);
  are = ap (λ (us : List Token). t ∷ us) more.are;
  faultless = more.faultless;
}

pub reads_gap : (bytes middle rest : List ℕ) (ts : List Token) (n : ℕ) → lexeme_at bytes ≡ Some (gap, n) → drop n bytes ≡ middle → HasTokens middle ts rest → HasTokens bytes ts rest
reads_gap bytes middle rest ts n at behind more = record {
  lexemes = gap ∷ more.lexemes;
  leads = (n, at, subst (λ (b : List ℕ). Lexes more.lexemes b rest) (sym behind) more.leads);
  are = more.are;
  faultless = more.faultless;
}

prefix_stops : (p : ℕ → Bool) (ys : List ℕ) → begins p ys ≡ false → prefix_len p ys ≡ 0
prefix_stops p [] stop = refl
prefix_stops p (y ∷ ys) stop = prefix_len-no p y ys stop

prefix_front : (p : ℕ → Bool) (xs ys : List ℕ) → list_all p xs ≡ true → begins p ys ≡ false → prefix_len p (xs ++ ys) ≡ length xs
prefix_front p [] ys all stop = prefix_stops p ys stop
prefix_front p (x ∷ xs) ys all stop =
    let parts = and_parts (p x) (list_all p xs) all in
    prefix_len-yes p x (xs ++ ys) parts.0 ∙ ap suc (prefix_front p xs ys parts.1 stop)

-- a test that fails, and one that passes
if_false : {A : Type 0} (b : Bool) (x y z : A) → b ≡ false → y ≡ z → cond b x y ≡ z
if_false true x y z fails is = absurd cc
if_false false x y z fails is = is

if_true : {A : Type 0} (b : Bool) (x y z : A) → b ≡ true → x ≡ z → cond b x y ≡ z
if_true true x y z passes is = is
if_true false x y z passes is = absurd cc

-- ---- words

word_front : (make : List ℕ → Token) (text rest : List ℕ) → list_all is_word_byte text ≡ true → begins is_word_byte rest ≡ false → word_at make (text ++ rest) ≡ (token (make text), length text)
word_front make text rest all stop =
    ap (λ (n : ℕ). (token (make (take n (text ++ rest))), n)) (prefix_front is_word_byte text rest all stop)
    ∙ ap (λ (xs : List ℕ). (token (make xs), length text)) (take-append_seam text rest)

lowercase_is : (b : ℕ) → is_ascii_lowercase b ≡ true → (is_blank b ≡ false) × (eqb b 37 ≡ false) × (is_slash b ≡ false) × (is_word_byte b ≡ true)
lowercase_is b h = (grind (arith, nat_tests), grind (arith, nat_tests), grind (arith, nat_tests), grind (arith, nat_tests))

lower_at : (text rest : List ℕ) → IsTrue (is_lower_word text) → begins is_word_byte rest ≡ false → lexeme_at (text ++ rest) ≡ Some (token (lower text), length text)
lower_at [] rest form stop = absurd cc
lower_at (b ∷ text) rest form stop =
    let parts = and_parts (is_ascii_lowercase b) (list_all is_word_byte text) form in
    let is = lowercase_is b parts.0 in
    ap Some
    (if_false (is_blank b) _ _ _ is.0
    (if_false (eqb b 37) _ _ _ is.1
    (if_false (is_slash b && begins is_star (text ++ rest)) _ _ _ (and_no-first (is_slash b) (begins is_star (text ++ rest)) is.2)
    (if_true (is_ascii_lowercase b) _ _ _ parts.0 (word_front lower (b ∷ text) rest (rw (is.3, parts.1) refl) stop)))))

pub lower_reads : (text rest last : List ℕ) (ts : List Token) → IsTrue (is_lower_word text) → begins is_word_byte rest ≡ false → HasTokens rest ts last → HasTokens (text ++ rest) (lower text ∷ ts) last
lower_reads text rest last ts form stop = reads_token (text ++ rest) rest last (lower text) ts (length text) (lower_at text rest form stop) (drop-append_seam text rest)

-- ---- quoted words

escaped_yes : (b : ℕ) → ((b == 39) || (b == 92)) ≡ true → escaped b ≡ 92 ∷ b ∷ []
escaped_yes b h = ap (λ (t : Bool). cond t (92 ∷ b ∷ []) (b ∷ [])) h

escaped_no : (b : ℕ) → ((b == 39) || (b == 92)) ≡ false → escaped b ≡ b ∷ []
escaped_no b h = ap (λ (t : Bool). cond t (92 ∷ b ∷ []) (b ∷ [])) h

-- the escaped characters end where they end, and their text is the text
record Escapes (text rest : List ℕ) (characters : List ℕ) : Type 0 where
  ends : ending 39 (characters ++ 39 ∷ rest) ≡ closed (length characters)
  reads : text_of characters ≡ text

ends_here : (rest : List ℕ) → ending 39 (39 ∷ rest) ≡ closed 0
ends_here [] = refl
ends_here (b ∷ rest) = refl

plain_ends : (b : ℕ) (bs : List ℕ) → eqb b 39 ≡ false → is_plain_byte b ≡ true → ending 39 (b ∷ bs) ≡ later 1 (ending 39 bs)
plain_ends b [] other plain = rw (other, plain) refl
plain_ends b (c ∷ bs) other plain = rw (other, plain) refl

escape_ends : (b : ℕ) (bs : List ℕ) → ((b == 39) || (b == 92)) ≡ true → ending 39 (92 ∷ b ∷ bs) ≡ later 2 (ending 39 bs)
escape_ends b bs special = if_true ((b == 39) || (b == 92)) _ _ _ special refl

unescaped_is : (b : ℕ) → (32 ≤ b) × (b ≤ 126) → ((b == 39) || (b == 92)) ≡ false → (eqb b 39 ≡ false) × (eqb b 92 ≡ false) × (is_plain_byte b ≡ true)
unescaped_is b fits h = let low = fits.0 in let high = fits.1 in (grind (arith, nat_tests), grind (arith, nat_tests), grind (arith, nat_tests))

escapes : (text rest : List ℕ) → AllByRecursion (λ b. (32 ≤ b) × (b ≤ 126)) text → Escapes text rest (flat_map escaped text)
escapes [] rest printable = record { ends = ends_here rest; reads = refl }
escapes (b ∷ text) rest printable = by ((b == 39) || (b == 92)) refl (escapes text rest printable.1)
  where
    by : (special : Bool) → ((b == 39) || (b == 92)) ≡ special → Escapes text rest (flat_map escaped text) → Escapes (b ∷ text) rest (escaped b ++ flat_map escaped text)
    by true is more = subst (λ (e : List ℕ). Escapes (b ∷ text) rest (e ++ flat_map escaped text)) (sym (escaped_yes b is)) (record {
      ends = escape_ends b (flat_map escaped text ++ 39 ∷ rest) is ∙ ap (later 2) more.ends ∙ ap closed (omega arith);
      reads = ap (λ (xs : List ℕ). b ∷ xs) more.reads;
    })
    by false is more =
        let plain = unescaped_is b printable.0 is in
        subst (λ (e : List ℕ). Escapes (b ∷ text) rest (e ++ flat_map escaped text)) (sym (escaped_no b is)) (record {
          ends = plain_ends b (flat_map escaped text ++ 39 ∷ rest) plain.0 plain.2 ∙ ap (later 1) more.ends ∙ ap closed (omega arith);
          reads = text_of-plain b (flat_map escaped text) plain.1 ∙ ap (λ (xs : List ℕ). b ∷ xs) more.reads;
        })

escaped_some : (text : List ℕ) → 0 < length text → 0 < length (flat_map escaped text)
escaped_some [] some = absurd (omega arith)
escaped_some (b ∷ text) some = by ((b == 39) || (b == 92)) refl
  where
    by : (special : Bool) → ((b == 39) || (b == 92)) ≡ special → 0 < length (escaped b ++ flat_map escaped text)
    by true is = subst (λ (e : List ℕ). 0 < length (e ++ flat_map escaped text)) (sym (escaped_yes b is)) (omega arith)
    by false is = subst (λ (e : List ℕ). 0 < length (e ++ flat_map escaped text)) (sym (escaped_no b is)) (omega arith)

quoted_front : (text rest : List ℕ) → IsPrintable text → quoted_at (flat_map escaped text ++ 39 ∷ rest) ≡ (token (quoted text), length (flat_map escaped text) + 2)
quoted_front text rest printable =
    let characters : List ℕ = flat_map escaped text in
    let escape = escapes text rest (recursion_from_All (λ b. (32 ≤ b) × (b ≤ 126)) text printable.1) in
    ap (between_marks quoted_word (characters ++ 39 ∷ rest)) escape.ends
    ∙ ap (λ (xs : List ℕ). (quoted_word xs, length characters + 2)) (take-append_seam characters (39 ∷ rest))
    ∙ ap (λ (x : Lexeme). (x, length characters + 2)) (sym (quoted_word-some characters (escaped_some text printable.0)))
    ∙ ap (λ (xs : List ℕ). (token (quoted xs), length characters + 2)) escape.reads

quoted_at_front : (text rest : List ℕ) → IsPrintable text → lexeme_at (words.quoted text ++ rest) ≡ Some (token (quoted text), length (words.quoted text))
quoted_at_front text rest printable =
    let characters : List ℕ = flat_map escaped text in
    let count : length characters + 2 ≡ length (39 ∷ (characters ++ 39 ∷ [])) = omega (arith, length-append characters (39 ∷ [])) in
    ap Some (ap quoted_at (append_assoc characters (39 ∷ []) rest) ∙ quoted_front text rest printable ∙ ap (λ (n : ℕ). (token (quoted text), n)) count)

pub quoted_reads : (text rest last : List ℕ) (ts : List Token) → IsPrintable text → HasTokens rest ts last → HasTokens (words.quoted text ++ rest) (quoted text ∷ ts) last
quoted_reads text rest last ts printable = reads_token (words.quoted text ++ rest) rest last (quoted text) ts (length (words.quoted text)) (quoted_at_front text rest printable) (drop-append_seam (words.quoted text) rest)

-- a word is bare where it can be
abbrev pub plain_word : List ℕ → Word
plain_word text = if is_lower_word text then bare text else between_quotes text

-- A written word is read again.
pub word_reads : (text rest last : List ℕ) (ts : List Token) → IsPrintable text → begins is_word_byte rest ≡ false → HasTokens rest ts last → HasTokens (written_word text ++ rest) (word_token (plain_word text) ∷ ts) last
word_reads text rest last ts printable stop more = by (is_lower_word text) refl
  where
    by : (bare_word : Bool) → is_lower_word text ≡ bare_word → HasTokens ((if bare_word then text else words.quoted text) ++ rest) (word_token (if bare_word then bare text else between_quotes text) ∷ ts) last
    by true is = lower_reads text rest last ts is stop more
    by false is = quoted_reads text rest last ts printable more

-- ---- numbers

digit_is : (b : ℕ) → is_ascii_digit b ≡ true
    → (is_blank b ≡ false) × (eqb b 37 ≡ false) × (is_slash b ≡ false) × (is_ascii_lowercase b ≡ false) × (is_ascii_uppercase b ≡ false) × (is_sign b ≡ false)
digit_is b h = (grind (arith, nat_tests), grind (arith, nat_tests), grind (arith, nat_tests), grind (arith, nat_tests), grind (arith, nat_tests), grind (arith, nat_tests))

begins_digit : (b : ℕ) (bs : List ℕ) → is_ascii_digit b ≡ true → begins_number (b ∷ bs) ≡ true
begins_digit b bs digit = ap (λ (t : Bool). begins is_ascii_digit (drop (cond t 1 0) (b ∷ bs))) (digit_is b digit).5 ∙ digit

number_size : (b : ℕ) (digits more : List ℕ) → list_all is_ascii_digit (b ∷ digits) ≡ true → number_len ((b ∷ digits) ++ 44 ∷ more) ≡ length (b ∷ digits)
number_size b digits more all =
    let bytes : List ℕ = (b ∷ digits) ++ 44 ∷ more in
    let size : ℕ = length (b ∷ digits) in
    let behind : drop size bytes ≡ 44 ∷ more = drop-append_seam (b ∷ digits) (44 ∷ more) in
    let sign : sign_len bytes ≡ 0 = ap (λ (t : Bool). cond t 1 0) (digit_is b (and_parts (is_ascii_digit b) (list_all is_ascii_digit digits) all).0).5 in
    let run : 0 + digits_len bytes ≡ size = omega (arith, prefix_front is_ascii_digit (b ∷ digits) (44 ∷ more) all refl) in
    let whole : integer_len bytes ≡ size = ap (λ (k : ℕ). k + digits_len (drop k bytes)) sign ∙ run in
    let plain : decimal_len bytes ≡ size =
    ap (λ (k : ℕ). k + fraction_len (drop k bytes)) whole ∙ ap (λ (xs : List ℕ). size + fraction_len xs) behind ∙ (let e : size + 0 ≡ size = omega arith in e) in
    ap (λ (k : ℕ). k + exponent_len (drop k bytes)) plain ∙ ap (λ (xs : List ℕ). size + exponent_len xs) behind ∙ (let e : size + 0 ≡ size = omega arith in e)

number_at_front : (digits more : List ℕ) → IsTrue (list_all is_ascii_digit digits) → IsTrue (begins_number digits) → lexeme_at (digits ++ 44 ∷ more) ≡ Some (token (number digits), length digits)
number_at_front [] more all some = absurd cc
number_at_front (b ∷ digits) more all some =
    let digit : is_ascii_digit b ≡ true = (and_parts (is_ascii_digit b) (list_all is_ascii_digit digits) all).0 in
    let is = digit_is b digit in
    let bytes : List ℕ = (b ∷ digits) ++ 44 ∷ more in
    ap Some
    (if_false (is_blank b) _ _ _ is.0
    (if_false (eqb b 37) _ _ _ is.1
    (if_false (is_slash b && begins is_star (digits ++ 44 ∷ more)) _ _ _ (and_no-first (is_slash b) (begins is_star (digits ++ 44 ∷ more)) is.2)
    (if_false (is_ascii_lowercase b) _ _ _ is.3
    (if_false (is_ascii_uppercase b) _ _ _ is.4
    (if_true (begins_number bytes) _ _ _ (begins_digit b (digits ++ 44 ∷ more) digit)
    (ap (λ (k : ℕ). (token (number (take k bytes)), k)) (number_size b digits more all)
    ∙ ap (λ (xs : List ℕ). (token (number xs), length (b ∷ digits))) (take-append_seam (b ∷ digits) (44 ∷ more)))))))))

-- A number of digits is read again before a comma.
pub number_reads : (digits more last : List ℕ) (ts : List Token) → IsTrue (list_all is_ascii_digit digits) → IsTrue (begins_number digits) → HasTokens (44 ∷ more) ts last
    → HasTokens (digits ++ 44 ∷ more) (number digits ∷ ts) last
number_reads digits more last ts all some = reads_token (digits ++ 44 ∷ more) (44 ∷ more) last (number digits) ts (length digits) (number_at_front digits more all some) (drop-append_seam digits (44 ∷ more))

-- ---- variables

digit_byte : (b : ℕ) → (48 ≤ b) × (b ≤ 57) → is_word_byte b ≡ true
digit_byte b fits = let low = fits.0 in let high = fits.1 in grind (arith, nat_tests)

digits_bytes : (digits : List ℕ) → AllDigits 10 digits → list_all is_word_byte digits ≡ true
digits_bytes [] all = refl
digits_bytes (b ∷ digits) all = rw (digit_byte b (let d = digit_from_value b all.0 in (omega (arith, d), omega (arith, d))), digits_bytes digits all.1) refl

variable_at : (n : ℕ) (rest : List ℕ) → n < 10 ^ 64 → begins is_word_byte rest ≡ false → lexeme_at (variable_text n ++ rest) ≡ Some (token (upper (variable_text n)), length (variable_text n))
variable_at n rest small stop = ap Some (word_front upper (variable_text n) rest (digits_bytes (decimal n) (decimal_is_IsNumeral_wide n small).0.1) stop)

-- A variable is read again.
pub variable_reads : (n : ℕ) (rest last : List ℕ) (ts : List Token) → n < 10 ^ 64 → begins is_word_byte rest ≡ false → HasTokens rest ts last → HasTokens (variable_text n ++ rest) (upper (variable_text n) ∷ ts) last
variable_reads n rest last ts small stop = reads_token (variable_text n ++ rest) rest last (upper (variable_text n)) ts (length (variable_text n)) (variable_at n rest small stop) (drop-append_seam (variable_text n) rest)
