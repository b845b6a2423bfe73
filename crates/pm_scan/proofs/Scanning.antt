-- How many bytes of a form come first, and what these are like.
use Rattle.std.proofs.Common.{◌≡◌, ℕ, suc, ◌+◌, ◌<◌, ◌≤◌, Bool, true, false, cond, eqb, nat_lt, List, [], ◌∷◌, length, take, drop, get_or, Option, Some, None, refl, sym, ap, subst, ◌∙◌, arith, inl, inr, ◌⊎◌, Result, Ok, Err, drop-cons, add-one, zero, length-take, length-drop}
use Rattle.std.specs.Prelude.{◌&&◌, ◌==◌, ◌||◌, ◌-◌}
use Rattle.std.specs.List.{prefix_len}
use Rattle.std.specs.Option.{option_map}
use Rattle.std.specs.Str.{IsAscii, IsUtf8}
use Rattle.std.specs.Result.{IsOk, MatchResult}
use Rattle.std.specs.Char.{is_ascii_digit}
use Rattle.std.proofs.lemmas.Bool.{cases_Bool, and_parts}
use Rattle.std.proofs.lemmas.Bool.Decides.{nat_tests}
use Rattle.std.proofs.lemmas.Str.{IsUtf8-from_ascii, IsAscii-append}
use Rattle.std.proofs.lemmas.Str.Ascii.{IsAscii-nil}
use Rattle.std.proofs.lemmas.List.{take_all, drop-drop}
use Rattle.std.proofs.lemmas.List.Sums.{prefix_len-le-length}
use Rattle.std.proofs.Math.Seq.{take-add}
use Rattle.pm_logic.specs.Word.{is_word_byte}
use Rattle.pm_scan.specs.declared.offence.CnfKind.{CnfKind}
use Rattle.pm_scan.specs.declared.offence.CnfKind.TheVariants.{BadToken, UnclosedQuote}
use Rattle.pm_scan.specs.Lexemes.{Lexeme, token, fault, quoted, quoted_word, text_of, begins, is_star, is_slash, is_sign, is_fraction_mark, is_exponent_mark, comment_len, comment_of, digits_len, sign_len, begins_number, integer_len, fraction_len, exponent_len, decimal_len, number_len, is_dollar, dollars_len, dollar_len, Ending, closed, spoilt, unclosed, later, is_plain_byte, ending, between_marks, lexeme_from}
use Rattle.pm_scan.specs.Inside.Scan.{closed_len}

-- which way a test went
pub chosen : {A : Type 0} (b : Bool) (x y z : A) → cond b x y ≡ z → ((b ≡ true) × (x ≡ z)) ⊎ ((b ≡ false) × (y ≡ z))
chosen true x y z e = inl (refl, e)
chosen false x y z e = inr (refl, e)

pub prefix_len-yes : (p : ℕ → Bool) (x : ℕ) (xs : List ℕ) → p x ≡ true → prefix_len p (x ∷ xs) ≡ suc (prefix_len p xs)
prefix_len-yes p x xs passes = rw passes (omega arith)

pub prefix_len-no : (p : ℕ → Bool) (x : ℕ) (xs : List ℕ) → p x ≡ false → prefix_len p (x ∷ xs) ≡ 0
prefix_len-no p x xs stop = rw stop refl

pub lt_from_test : (m n : ℕ) → true ≡ nat_lt m n → m < n
lt_from_test m n test = grind (arith, nat_tests)

pub and_no-first : (a b : Bool) → a ≡ false → (a && b) ≡ false
and_no-first a b no_first = rw no_first refl

pub and_no-second : (a b : Bool) → b ≡ false → (a && b) ≡ false
and_no-second true b no_second = no_second
and_no-second false b no_second = refl

pub take_rest : (n : ℕ) (xs : List ℕ) → take (length xs - n) (drop n xs) ≡ drop n xs
take_rest n xs = take_all (length xs - n) (drop n xs) (omega (arith, length-drop n xs))

begins-there : (p : ℕ → Bool) (n : ℕ) (xs : List ℕ) → begins p (drop n xs) ≡ true → n < length xs
begins-there p zero [] there = absurd cc
begins-there p zero (x ∷ xs) there = omega arith
begins-there p (suc n) [] there = absurd cc
begins-there p (suc n) (x ∷ xs) there = let more = begins-there p n xs there in omega (arith, more)

-- ---- ASCII

pub IsAscii-cons : (b : ℕ) (bs : List ℕ) → b < 128 → IsAscii bs → IsAscii (b ∷ bs)
IsAscii-cons b bs small rest zero = small
IsAscii-cons b bs small rest (suc i) = rest i

-- a test that only ASCII bytes pass
abbrev pub IsAsciiTest : (ℕ → Bool) → Type 0
IsAsciiTest p = (b : ℕ) → p b ≡ true → b < 128

pub IsAscii-front : (p : ℕ → Bool) (xs : List ℕ) → IsAsciiTest p → IsAscii (take (prefix_len p xs) xs)
IsAscii-front p [] small = IsAscii-nil
IsAscii-front p (x ∷ xs) small = by (cases_Bool (p x)) (IsAscii-front p xs small)
  where
    by : (p x ≡ true) ⊎ (p x ≡ false) → IsAscii (take (prefix_len p xs) xs) → IsAscii (take (prefix_len p (x ∷ xs)) (x ∷ xs))
    by (inl passes) more = rw (prefix_len-yes p x xs passes) (IsAscii-cons x (take (prefix_len p xs) xs) (small x passes) more)
    by (inr stop) more = rw (prefix_len-no p x xs stop) IsAscii-nil

IsAscii-one : (p : ℕ → Bool) (xs : List ℕ) → IsAsciiTest p → begins p xs ≡ true → IsAscii (take 1 xs)
IsAscii-one p [] small first = IsAscii-nil
IsAscii-one p (x ∷ xs) small first = IsAscii-cons x [] (small x first) IsAscii-nil

IsAscii-more : (m n : ℕ) (xs : List ℕ) → IsAscii (take m xs) → IsAscii (take n (drop m xs)) → IsAscii (take (m + n) xs)
IsAscii-more m n xs front rest = rw (take-add m n xs) (IsAscii-append (take m xs) (take n (drop m xs)) front rest)

-- a part that is there by a test or has no bytes
IsAscii-part : (b : Bool) (n : ℕ) (xs : List ℕ) → (b ≡ true → IsAscii (take n xs)) → IsAscii (take (cond b n 0) xs)
IsAscii-part true n xs there = there refl
IsAscii-part false n xs there = IsAscii-nil

word_byte_small : IsAsciiTest is_word_byte
word_byte_small b h = grind (arith, nat_tests)

digit_small : IsAsciiTest is_ascii_digit
digit_small b h = grind (arith, nat_tests)

sign_small : IsAsciiTest is_sign
sign_small b h = grind (arith, nat_tests)

fraction_mark_small : IsAsciiTest is_fraction_mark
fraction_mark_small b h = grind (arith, nat_tests)

exponent_mark_small : IsAsciiTest is_exponent_mark
exponent_mark_small b h = grind (arith, nat_tests)

dollar_small : IsAsciiTest is_dollar
dollar_small b h = grind (arith, nat_tests)

pub IsAscii-word : (xs : List ℕ) → IsAscii (take (prefix_len is_word_byte xs) xs)
IsAscii-word xs = IsAscii-front is_word_byte xs word_byte_small

IsAscii-digits : (xs : List ℕ) → IsAscii (take (digits_len xs) xs)
IsAscii-digits xs = IsAscii-front is_ascii_digit xs digit_small

IsAscii-sign : (xs : List ℕ) → IsAscii (take (sign_len xs) xs)
IsAscii-sign xs = IsAscii-part (begins is_sign xs) 1 xs (λ there. IsAscii-one is_sign xs sign_small there)

IsAscii-integer : (xs : List ℕ) → IsAscii (take (integer_len xs) xs)
IsAscii-integer xs = IsAscii-more (sign_len xs) (digits_len (drop (sign_len xs) xs)) xs (IsAscii-sign xs) (IsAscii-digits (drop (sign_len xs) xs))

IsAscii-fraction : (xs : List ℕ) → IsAscii (take (fraction_len xs) xs)
IsAscii-fraction xs =
    IsAscii-part (begins is_fraction_mark xs && begins is_ascii_digit (drop 1 xs)) (1 + digits_len (drop 1 xs)) xs
    (λ there. IsAscii-more 1 (digits_len (drop 1 xs)) xs (IsAscii-one is_fraction_mark xs fraction_mark_small (and_parts (begins is_fraction_mark xs) (begins is_ascii_digit (drop 1 xs)) there).0) (IsAscii-digits (drop 1 xs)))

IsAscii-exponent : (xs : List ℕ) → IsAscii (take (exponent_len xs) xs)
IsAscii-exponent xs =
    IsAscii-part (begins is_exponent_mark xs && begins_number (drop 1 xs)) (1 + integer_len (drop 1 xs)) xs
    (λ there. IsAscii-more 1 (integer_len (drop 1 xs)) xs (IsAscii-one is_exponent_mark xs exponent_mark_small (and_parts (begins is_exponent_mark xs) (begins_number (drop 1 xs)) there).0) (IsAscii-integer (drop 1 xs)))

IsAscii-decimal : (xs : List ℕ) → IsAscii (take (decimal_len xs) xs)
IsAscii-decimal xs = IsAscii-more (integer_len xs) (fraction_len (drop (integer_len xs) xs)) xs (IsAscii-integer xs) (IsAscii-fraction (drop (integer_len xs) xs))

pub IsAscii-number : (xs : List ℕ) → IsAscii (take (number_len xs) xs)
IsAscii-number xs = IsAscii-more (decimal_len xs) (exponent_len (drop (decimal_len xs) xs)) xs (IsAscii-decimal xs) (IsAscii-exponent (drop (decimal_len xs) xs))

-- the first bytes of the first bytes
take_within : (m n : ℕ) (xs : List ℕ) → m ≤ n → take m (take n xs) ≡ take m xs
take_within zero n xs le = refl
take_within (suc m) zero xs le = absurd (omega arith)
take_within (suc m) (suc n) [] le = refl
take_within (suc m) (suc n) (x ∷ xs) le = ap (λ (ys : List ℕ). x ∷ ys) (take_within m n xs (omega arith))

pub dollars_len-le : (xs : List ℕ) → (dollars_len xs ≤ 2) × (dollars_len xs ≤ length xs)
dollars_len-le xs =
    let le = prefix_len-le-length is_dollar (take 2 xs) in
    let n = length-take 2 xs in
    (omega (arith, le, n), omega (arith, le, n))

IsAscii-dollars : (xs : List ℕ) → IsAscii (take (dollars_len xs) xs)
IsAscii-dollars xs = subst IsAscii (take_within (dollars_len xs) 2 xs (dollars_len-le xs).0) (IsAscii-front is_dollar (take 2 xs) dollar_small)

pub IsAscii-dollar_word : (xs : List ℕ) → IsAscii (take (dollar_len xs) xs)
IsAscii-dollar_word xs = IsAscii-more (dollars_len xs) (prefix_len is_word_byte (drop (dollars_len xs) xs)) xs (IsAscii-dollars xs) (IsAscii-word (drop (dollars_len xs) xs))

pub dollar_len-parts : (xs : List ℕ) (dollars word : ℕ) → dollars ≡ dollars_len xs → word ≡ prefix_len is_word_byte (take (length xs - dollars) (drop dollars xs)) → dollars + word ≡ dollar_len xs
dollar_len-parts xs dollars word first second =
    let rest : word ≡ prefix_len is_word_byte (drop dollars xs) = second ∙ ap (prefix_len is_word_byte) (take_rest dollars xs) in
    ap (λ (n : ℕ). dollars + n) rest ∙ ap (λ (n : ℕ). n + prefix_len is_word_byte (drop n xs)) first

-- what is ASCII is read as text
pub IsOk-from_utf8 : {S E : Type 0} (bytes : List ℕ) (shows : S → Type 0) (tells : E → Type 0) (r : Result S E) → MatchResult r shows (λ e. (¬ IsUtf8 bytes) × tells e) → IsAscii bytes → IsOk r
IsOk-from_utf8 bytes shows tells (Ok s) cases ascii = refl
IsOk-from_utf8 bytes shows tells (Err e) cases ascii = absurd (cases.0 (IsUtf8-from_ascii _ ascii))

-- ---- block comments

comment_step : (len : ℕ) (o : Option ℕ) → option_map (λ n. len + 1 + n) o ≡ option_map (λ n. len + n) (option_map suc o)
comment_step len None = refl
comment_step len (Some n) = ap Some (omega arith)

pub comment_goes_on : (len byte : ℕ) (rest after bytes : List ℕ) → option_map (λ n. len + n) (comment_len rest) ≡ comment_len bytes → rest ≡ byte ∷ after
    → (is_star byte && begins is_slash after) ≡ false → option_map (λ n. len + 1 + n) (comment_len after) ≡ comment_len bytes
comment_goes_on len byte rest after bytes so_far is open_yet =
    let on : comment_len (byte ∷ after) ≡ option_map suc (comment_len after) = rw open_yet refl in
    comment_step len (comment_len after)
    ∙ ap (option_map (λ n. len + n)) (sym on)
    ∙ ap (λ (r : List ℕ). option_map (λ n. len + n) (comment_len r)) (sym is)
    ∙ so_far

-- where /* begins
pub block_from : (first : ℕ) (rest : List ℕ) (x : Lexeme × ℕ) → first ≡ 47 → true ≡ begins is_star rest
    → x ≡ comment_of (comment_len (take (length rest - 1) (drop 1 rest))) → x ≡ lexeme_from first rest
block_from first rest x slash star is =
    let here : lexeme_from 47 rest ≡ comment_of (comment_len (drop 1 rest)) = rw (sym star) refl in
    is
    ∙ ap (λ (r : List ℕ). comment_of (comment_len r)) (take_rest 1 rest)
    ∙ sym here
    ∙ ap (λ (b : ℕ). lexeme_from b rest) (sym slash)

-- ---- the characters up to a closing mark

pub later_zero : (e : Ending) → later 0 e ≡ e
later_zero (closed n) = ap closed (omega arith)
later_zero spoilt = refl
later_zero unclosed = refl

later_later : (m n : ℕ) (e : Ending) → later m (later n e) ≡ later (m + n) e
later_later m n (closed k) = ap closed (omega arith)
later_later m n spoilt = refl
later_later m n unclosed = refl

ending-plain : (close b : ℕ) (bs : List ℕ) → eqb b close ≡ false → is_plain_byte b ≡ true → ending close (b ∷ bs) ≡ later 1 (ending close bs)
ending-plain close b [] other plain = rw (other, plain) refl
ending-plain close b (c ∷ bs) other plain = rw (other, plain) refl

ending-escape : (close b : ℕ) (bs : List ℕ) → eqb b close ≡ false → is_plain_byte b ≡ false → eqb b 92 ≡ true → begins (λ next. (next == close) || (next == 92)) bs ≡ true
    → ending close (b ∷ bs) ≡ later 2 (ending close (drop 1 bs))
ending-escape close b [] other special backslash escaped = absurd cc
ending-escape close b (c ∷ bs) other special backslash escaped = rw (other, special, backslash, escaped) refl

ending-spoilt : (close b : ℕ) (bs : List ℕ) → eqb b close ≡ false → is_plain_byte b ≡ false → (eqb b 92 && begins (λ next. (next == close) || (next == 92)) bs) ≡ false
    → ending close (b ∷ bs) ≡ spoilt
ending-spoilt close b [] other special bad = rw (other, special) refl
ending-spoilt close b (c ∷ bs) other special bad = rw (other, special, bad) refl

ending-close : (close b : ℕ) (bs : List ℕ) → eqb b close ≡ true → ending close (b ∷ bs) ≡ closed 0
ending-close close b [] same = rw same refl
ending-close close b (c ∷ bs) same = rw same refl

-- the characters go on up to a byte
pub record HasScanned (close len byte : ℕ) (bytes : List ℕ) : Type 0 where
  pub ends : later len (ending close (drop len bytes)) ≡ ending close bytes
  pub there : len < length bytes
  pub is : byte ≡ get_or bytes len byte

reads_on : (close len byte : ℕ) (bytes : List ℕ) (e : Ending) → HasScanned close len byte bytes → ending close (byte ∷ drop (len + 1) bytes) ≡ e → later len e ≡ ending close bytes
reads_on close len byte bytes e reads here =
    let front : drop len bytes ≡ byte ∷ drop (len + 1) bytes =
    rw (add-one len) (drop-cons bytes len byte reads.there ∙ ap (λ (b : ℕ). b ∷ drop (suc len) bytes) (sym reads.is)) in
    ap (later len) (sym here) ∙ ap (λ (r : List ℕ). later len (ending close r)) (sym front) ∙ reads.ends

pub plain_goes_on : (close len byte : ℕ) (bytes : List ℕ) → HasScanned close len byte bytes → (byte ≡ close → ⊥) → true ≡ is_plain_byte byte
    → later (len + 1) (ending close (drop (len + 1) bytes)) ≡ ending close bytes
plain_goes_on close len byte bytes reads other plain =
    sym (later_later len 1 (ending close (drop (len + 1) bytes)))
    ∙ reads_on close len byte bytes _ reads (ending-plain close byte (drop (len + 1) bytes) (grind (arith, nat_tests)) (sym plain))

pub escape_goes_on : (close len byte : ℕ) (bytes : List ℕ) → HasScanned close len byte bytes → (byte ≡ close → ⊥) → false ≡ is_plain_byte byte → byte ≡ 92
    → true ≡ begins (λ next. (next == close) || (next == 92)) (take (length bytes - (len + 1)) (drop (len + 1) bytes)) → later (len + 2) (ending close (drop (len + 2) bytes)) ≡ ending close bytes
escape_goes_on close len byte bytes reads other special backslash escaped =
    let rest : List ℕ = drop (len + 1) bytes in
    let there : begins (λ next. (next == close) || (next == 92)) rest ≡ true = ap (begins (λ next. (next == close) || (next == 92))) (sym (take_rest (len + 1) bytes)) ∙ sym escaped in
    let here = ending-escape close byte rest (grind (arith, nat_tests)) (sym special) (grind (arith, nat_tests)) there in
    let past : drop 1 rest ≡ drop (len + 2) bytes = drop-drop 1 (len + 1) bytes ∙ ap (λ (n : ℕ). drop n bytes) (omega arith) in
    sym (later_later len 2 (ending close (drop (len + 2) bytes)))
    ∙ ap (λ (r : List ℕ). later len (later 2 (ending close r))) (sym past)
    ∙ reads_on close len byte bytes _ reads here

pub escape_there : (p : ℕ → Bool) (n : ℕ) (bytes : List ℕ) → true ≡ begins p (take (length bytes - n) (drop n bytes)) → n < length bytes
escape_there p n bytes there = begins-there p n bytes (ap (begins p) (sym (take_rest n bytes)) ∙ sym there)

pub closes : (close len byte : ℕ) (bytes : List ℕ) → HasScanned close len byte bytes → byte ≡ close → Ok len ≡ closed_len (ending close bytes)
closes close len byte bytes reads same =
    let at_end : len ≡ len + 0 = omega arith in
    ap Ok at_end ∙ ap closed_len (reads_on close len byte bytes (closed 0) reads (ending-close close byte (drop (len + 1) bytes) (grind (arith, nat_tests))))

pub spoils : (close len byte : ℕ) (bytes : List ℕ) → HasScanned close len byte bytes → (byte ≡ close → ⊥) → false ≡ is_plain_byte byte
    → (eqb byte 92 && begins (λ next. (next == close) || (next == 92)) (take (length bytes - (len + 1)) (drop (len + 1) bytes))) ≡ false → Err BadToken ≡ closed_len (ending close bytes)
spoils close len byte bytes reads other special bad =
    let test : List ℕ → Bool = λ r. eqb byte 92 && begins (λ next. (next == close) || (next == 92)) r in
    ap closed_len (reads_on close len byte bytes spoilt reads (ending-spoilt close byte (drop (len + 1) bytes) (grind (arith, nat_tests)) (sym special) (ap test (sym (take_rest (len + 1) bytes)) ∙ bad)))

pub between-closed : (make : List ℕ → Lexeme) (bytes : List ℕ) (e : Ending) (n : ℕ) → Ok n ≡ closed_len e → (make (take n bytes), n + 2) ≡ between_marks make bytes e
between-closed make bytes (closed m) n is = let same : n ≡ m = cc in rw same refl
between-closed make bytes spoilt n is = absurd cc
between-closed make bytes unclosed n is = absurd cc

pub closed_len-ok : (e : Ending) (n : ℕ) → Ok n ≡ closed_len e → e ≡ closed n
closed_len-ok (closed m) n is = let same : n ≡ m = cc in ap closed (sym same)
closed_len-ok spoilt n is = absurd cc
closed_len-ok unclosed n is = absurd cc

pub quoted_word-some : (characters : List ℕ) → 0 < length characters → token (quoted (text_of characters)) ≡ quoted_word characters
quoted_word-some [] some = absurd (omega arith)
quoted_word-some (b ∷ bs) some = refl

pub between-fault : (make : List ℕ → Lexeme) (bytes : List ℕ) (e : Ending) (kind : CnfKind) → Err kind ≡ closed_len e → (fault kind, 1) ≡ between_marks make bytes e
between-fault make bytes (closed m) kind is = absurd cc
between-fault make bytes spoilt kind is = let same : kind ≡ BadToken = cc in rw same refl
between-fault make bytes unclosed kind is = let same : kind ≡ UnclosedQuote = cc in rw same refl
