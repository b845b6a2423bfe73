-- What stands at the front of bytes has its form, and is no longer than they are.
use Rattle.std.proofs.Common.{◌≡◌, ℕ, suc, zero, ◌+◌, ◌<◌, ◌≤◌, Bool, true, false, cond, eqb, List, [], ◌∷◌, length, take, drop, Option, Some, None, refl, sym, subst, ◌⊎◌, arith, inl, inr, length-drop, length-take}
use Rattle.std.specs.Prelude.{◌&&◌, ◌==◌, ◌||◌, not}
use Rattle.std.specs.List.{prefix_len, list_all, All}
use Rattle.std.specs.Option.{option_map}
use Rattle.std.specs.Str.{IsAscii}
use Rattle.std.specs.Char.{is_ascii_digit, is_ascii_lowercase, is_ascii_uppercase}
use Rattle.std.proofs.lemmas.Bool.{cases_Bool, and_parts}
use Rattle.std.proofs.lemmas.Bool.Decides.{nat_tests}
use Rattle.std.proofs.lemmas.Str.Ascii.{IsAscii-from_all, IsAscii-nil}
use Rattle.std.proofs.lemmas.List.Elements.{All-nil, All-cons}
use Rattle.std.proofs.lemmas.List.Sums.{prefix_len-le-length}
use Rattle.std.proofs.lemmas.Option.{same_Some}
use Rattle.pm_logic.specs.Word.{is_word_byte}
use Rattle.pm_scan.specs.declared.offence.CnfKind.TheVariants.{BadToken}
use Rattle.pm_scan.specs.declared.token.Mark.{Mark}
use Rattle.pm_scan.specs.Lexemes.{Token, lower, upper, number, distinct, dollar, unequal, Lexeme, gap, token, fault, is_blank, is_line_end, begins, front, is_star, is_slash, is_sign, is_fraction_mark, is_exponent_mark, comment_len, comment_of, digits_len, sign_len, begins_number, integer_len, fraction_len, exponent_len, decimal_len, number_len, dollars_len, dollar_len, dollar_at, Ending, closed, spoilt, unclosed, later, is_plain_byte, ending, text_of, between_marks, quoted_word, quoted_at, distinct_at, word_at, mark_of, mark_lexeme, lexeme_from, lexeme_at, Lexes, tokens_in}
use Rattle.pm_scan.specs.Forms.{LexemeHasForm, HasForm}
use Rattle.pm_scan.proofs.Scanning.{chosen, prefix_len-yes, prefix_len-no, dollars_len-le, IsAscii-cons}

-- ---- characters up to a closing mark

-- bytes from 32 to 126
abbrev pub ArePrintableBytes : List ℕ → Type 0
ArePrintableBytes text = All (λ b. (32 ≤ b) × (b ≤ 126)) text

-- so many bytes are characters, with the closing mark behind them
pub record AreCharacters (bytes : List ℕ) (n : ℕ) : Type 0 where
  pub within : n < length bytes
  pub ascii : IsAscii (take n bytes)
  pub printable : ArePrintableBytes (text_of (take n bytes))
  pub some : 0 < n → 0 < length (text_of (take n bytes))

later_closed : (k : ℕ) (e : Ending) (n : ℕ) → later k e ≡ closed n → (m : ℕ) × (e ≡ closed m) × (k + m ≡ n)
later_closed k (closed m) n is = (m, refl, cc)
later_closed k spoilt n is = absurd cc
later_closed k unclosed n is = absurd cc

pub text_of-plain : (b : ℕ) (bs : List ℕ) → eqb b 92 ≡ false → text_of (b ∷ bs) ≡ b ∷ text_of bs
text_of-plain b [] plain = refl
text_of-plain b (c ∷ bs) plain = rw plain refl

text_of-escape : (b next : ℕ) (bs : List ℕ) → eqb b 92 ≡ true → text_of (b ∷ next ∷ bs) ≡ next ∷ text_of bs
text_of-escape b next bs backslash = rw backslash refl

plain_byte_is : (b : ℕ) → is_plain_byte b ≡ true → (eqb b 92 ≡ false) × (32 ≤ b) × (b ≤ 126)
plain_byte_is b plain = (grind (arith, nat_tests), grind (arith, nat_tests), grind (arith, nat_tests))

closes_here : (b : ℕ) (bs : List ℕ) (n : ℕ) → closed 0 ≡ closed n → AreCharacters (b ∷ bs) n
closes_here b bs n is =
    let none : 0 ≡ n = cc in
    subst (λ (k : ℕ). AreCharacters (b ∷ bs) k) none (record { within = omega arith; ascii = IsAscii-nil; printable = All-nil _; some = λ lt. absurd (omega arith) })

closes_after_plain : (b : ℕ) (bs : List ℕ) (m n : ℕ) → is_plain_byte b ≡ true → AreCharacters bs m → 1 + m ≡ n → AreCharacters (b ∷ bs) n
closes_after_plain b bs m n plain more is =
    let parts = plain_byte_is b plain in
    let n_is : n ≡ suc m = omega arith in
    let text : text_of (b ∷ take m bs) ≡ b ∷ text_of (take m bs) = text_of-plain b (take m bs) parts.0 in
    rw n_is (record {
      within = let lt = more.within in omega arith;
      ascii = IsAscii-cons b (take m bs) (let le = parts.2 in omega arith) more.ascii;
      printable = rw text (All-cons (λ c. (32 ≤ c) × (c ≤ 126)) b (text_of (take m bs)) (parts.1, parts.2) more.printable);
      some = λ lt. rw text (omega arith);
    })

closes_after_escape : (b next : ℕ) (bs : List ℕ) (m n : ℕ) → eqb b 92 ≡ true → (32 ≤ next) × (next ≤ 126) → AreCharacters bs m → 2 + m ≡ n → AreCharacters (b ∷ next ∷ bs) n
closes_after_escape b next bs m n backslash fits more is =
    let n_is : n ≡ suc (suc m) = omega arith in
    let text : text_of (b ∷ next ∷ take m bs) ≡ next ∷ text_of (take m bs) = text_of-escape b next (take m bs) backslash in
    rw n_is (record {
      within = let lt = more.within in omega arith;
      ascii = IsAscii-cons b (next ∷ take m bs) (grind (arith, nat_tests)) (IsAscii-cons next (take m bs) (let le = fits.1 in omega arith) more.ascii);
      printable = rw text (All-cons (λ c. (32 ≤ c) × (c ≤ 126)) next (text_of (take m bs)) fits more.printable);
      some = λ lt. rw text (omega arith);
    })

escaped_fits : (close next : ℕ) → (32 ≤ close) × (close ≤ 126) → ((next == close) || (next == 92)) ≡ true → (32 ≤ next) × (next ≤ 126)
escaped_fits close next fits escaped = (let le = fits.0 in grind (arith, nat_tests), let le = fits.1 in grind (arith, nat_tests))

pub ending_closes : (close : ℕ) (bytes : List ℕ) (n : ℕ) → (32 ≤ close) × (close ≤ 126) → ending close bytes ≡ closed n → AreCharacters bytes n
ending_closes close [] n fits e = absurd cc
ending_closes close (b ∷ []) n fits e =
    elim (chosen (eqb b close) (closed 0) _ (closed n) e) [
      | inl p ↦ closes_here b [] n p.1
      | inr p ↦ elim (chosen (is_plain_byte b) unclosed spoilt (closed n) p.1) [
        | inl q ↦ absurd (let is = q.1 in cc)
        | inr q ↦ absurd (let is = q.1 in cc)
      ]
    ]
ending_closes close (b ∷ next ∷ bytes) n fits e =
    elim (chosen (eqb b close) (closed 0) _ (closed n) e) [
      | inl p ↦ closes_here b (next ∷ bytes) n p.1
      | inr p ↦ elim (chosen (is_plain_byte b) (later 1 (ending close (next ∷ bytes))) _ (closed n) p.1) [
        | inl q ↦
            let m = later_closed 1 (ending close (next ∷ bytes)) n q.1 in
            closes_after_plain b (next ∷ bytes) m.0 n q.0 (ending_closes close (next ∷ bytes) m.0 fits m.1) m.2
        | inr q ↦ elim (chosen ((b == 92) && ((next == close) || (next == 92))) (later 2 (ending close bytes)) spoilt (closed n) q.1) [
          | inl r ↦
              let m = later_closed 2 (ending close bytes) n r.1 in
              let both = and_parts (b == 92) ((next == close) || (next == 92)) r.0 in
              closes_after_escape b next bytes m.0 n both.0 (escaped_fits close next fits both.1) (ending_closes close bytes m.0 fits m.1) m.2
          | inr r ↦ absurd (let is = r.1 in cc)
        ]
      ]
    ]

pub IsAscii-printables : (text : List ℕ) → ArePrintableBytes text → IsAscii text
IsAscii-printables text printable = IsAscii-from_all text (λ k d lt. let le = (printable k d lt).1 in omega arith)

-- ---- lengths

within_more : (m n : ℕ) (xs : List ℕ) → m ≤ length xs → n ≤ length (drop m xs) → m + n ≤ length xs
within_more m n xs front rest = omega (arith, length-drop m xs)

within_part : (b : Bool) (n : ℕ) (xs : List ℕ) → (b ≡ true → n ≤ length xs) → cond b n 0 ≤ length xs
within_part true n xs there = there refl
within_part false n xs there = omega arith

within_one : (p : ℕ → Bool) (xs : List ℕ) → begins p xs ≡ true → 1 ≤ length xs
within_one p [] there = absurd cc
within_one p (x ∷ xs) there = omega arith

prefix_there : (p : ℕ → Bool) (xs : List ℕ) → begins p xs ≡ true → 0 < prefix_len p xs
prefix_there p [] there = absurd cc
prefix_there p (x ∷ xs) there = rw (prefix_len-yes p x xs there) (omega arith)

begins-weaker : (p q : ℕ → Bool) (xs : List ℕ) → ((b : ℕ) → p b ≡ true → q b ≡ true) → begins p xs ≡ true → begins q xs ≡ true
begins-weaker p q [] weaker there = there
begins-weaker p q (x ∷ xs) weaker there = weaker x there

sign_len-le : (xs : List ℕ) → sign_len xs ≤ length xs
sign_len-le xs = within_part (begins is_sign xs) 1 xs (within_one is_sign xs)

integer_len-le : (xs : List ℕ) → integer_len xs ≤ length xs
integer_len-le xs = within_more (sign_len xs) (digits_len (drop (sign_len xs) xs)) xs (sign_len-le xs) (prefix_len-le-length is_ascii_digit (drop (sign_len xs) xs))

fraction_len-le : (xs : List ℕ) → fraction_len xs ≤ length xs
fraction_len-le xs =
    within_part (begins is_fraction_mark xs && begins is_ascii_digit (drop 1 xs)) (1 + digits_len (drop 1 xs)) xs
    (λ there. within_more 1 (digits_len (drop 1 xs)) xs (within_one is_fraction_mark xs (and_parts (begins is_fraction_mark xs) (begins is_ascii_digit (drop 1 xs)) there).0) (prefix_len-le-length is_ascii_digit (drop 1 xs)))

exponent_len-le : (xs : List ℕ) → exponent_len xs ≤ length xs
exponent_len-le xs =
    within_part (begins is_exponent_mark xs && begins_number (drop 1 xs)) (1 + integer_len (drop 1 xs)) xs
    (λ there. within_more 1 (integer_len (drop 1 xs)) xs (within_one is_exponent_mark xs (and_parts (begins is_exponent_mark xs) (begins_number (drop 1 xs)) there).0) (integer_len-le (drop 1 xs)))

decimal_len-le : (xs : List ℕ) → decimal_len xs ≤ length xs
decimal_len-le xs = within_more (integer_len xs) (fraction_len (drop (integer_len xs) xs)) xs (integer_len-le xs) (fraction_len-le (drop (integer_len xs) xs))

number_len-le : (xs : List ℕ) → number_len xs ≤ length xs
number_len-le xs = within_more (decimal_len xs) (exponent_len (drop (decimal_len xs) xs)) xs (decimal_len-le xs) (exponent_len-le (drop (decimal_len xs) xs))

-- a number has a digit behind its sign
number_len-more : (xs : List ℕ) → begins_number xs ≡ true → sign_len xs < number_len xs
number_len-more xs there =
    let digit : 0 < digits_len (drop (sign_len xs) xs) = prefix_there is_ascii_digit (drop (sign_len xs) xs) there in
    omega arith

begins_number-take : (xs : List ℕ) (n : ℕ) → sign_len xs < n → begins_number xs ≡ true → begins_number (take n xs) ≡ true
begins_number-take [] n lt there = absurd cc
begins_number-take (x ∷ xs) zero lt there = absurd (omega arith)
begins_number-take (x ∷ xs) (suc n) lt there = by (is_sign x) xs n lt there
  where
    by : (sign : Bool) (ys : List ℕ) (k : ℕ) → cond sign 1 0 < suc k → begins is_ascii_digit (drop (cond sign 1 0) (x ∷ ys)) ≡ true
        → begins is_ascii_digit (drop (cond sign 1 0) (x ∷ take k ys)) ≡ true
    by true [] k less digit = absurd cc
    by true (y ∷ ys) zero less digit = absurd (omega arith)
    by true (y ∷ ys) (suc k) less digit = digit
    by false ys k less digit = digit

-- ---- what stands at the front

-- something of a length stands at the front of bytes
pub record IsFoundIn (bytes : List ℕ) (found : Lexeme × ℕ) : Type 0 where
  pub some : 0 < found.1
  pub within : found.1 ≤ length bytes
  pub form : LexemeHasForm found.0

stands_by : (bytes : List ℕ) (b : Bool) (x y : Lexeme × ℕ) → (b ≡ true → IsFoundIn bytes x) → (b ≡ false → IsFoundIn bytes y) → IsFoundIn bytes (cond b x y)
stands_by bytes true x y passes fails = passes refl
stands_by bytes false x y passes fails = fails refl

one_stands : (byte : ℕ) (rest : List ℕ) (x : Lexeme) → LexemeHasForm x → IsFoundIn (byte ∷ rest) (x, 1)
one_stands byte rest x form = record { some = omega arith; within = omega arith; form = form }

line_stands : (byte : ℕ) (rest : List ℕ) → IsFoundIn (byte ∷ rest) (gap, 1 + prefix_len (λ b. not (is_line_end b)) rest)
line_stands byte rest = record { some = omega arith; within = let le = prefix_len-le-length (λ b. not (is_line_end b)) rest in omega arith; form = tt }

map_suc : (o : Option ℕ) (n : ℕ) → option_map suc o ≡ Some n → (m : ℕ) × (o ≡ Some m) × (suc m ≡ n)
map_suc None n is = absurd cc
map_suc (Some m) n is = (m, refl, cc)

comment_len-le : (bytes : List ℕ) (n : ℕ) → comment_len bytes ≡ Some n → n ≤ length bytes
comment_len-le [] n is = absurd cc
comment_len-le (b ∷ bytes) n is =
    elim (chosen (is_star b && begins is_slash bytes) (Some 2) _ (Some n) is) [
      | inl p ↦
          let two : 2 ≡ n = let e = p.1 in cc in
          let slash = within_one is_slash bytes (and_parts (is_star b) (begins is_slash bytes) p.0).1 in
          omega arith
      | inr p ↦
          let m = map_suc (comment_len bytes) n p.1 in
          let le = comment_len-le bytes m.0 m.1 in
          let is_suc = m.2 in
          omega arith
    ]

comment_stands : (byte : ℕ) (rest : List ℕ) (o : Option ℕ) → begins is_star rest ≡ true → ((n : ℕ) → o ≡ Some n → n ≤ length (drop 1 rest)) → IsFoundIn (byte ∷ rest) (comment_of o)
comment_stands byte rest None star within = one_stands byte rest _ tt
comment_stands byte rest (Some n) star within =
    record { some = omega arith; within = let le = within n refl in let there = within_one is_star rest star in omega (arith, length-drop 1 rest); form = tt }

lower_word_byte : (b : ℕ) → is_ascii_lowercase b ≡ true → is_word_byte b ≡ true
lower_word_byte b h = grind (arith, nat_tests)

upper_word_byte : (b : ℕ) → is_ascii_uppercase b ≡ true → is_word_byte b ≡ true
upper_word_byte b h = grind (arith, nat_tests)

front_passes : (p : ℕ → Bool) (xs : List ℕ) → list_all p (take (prefix_len p xs) xs) ≡ true
front_passes p [] = refl
front_passes p (x ∷ xs) = by (cases_Bool (p x)) (front_passes p xs)
  where
    by : (p x ≡ true) ⊎ (p x ≡ false) → list_all p (take (prefix_len p xs) xs) ≡ true → list_all p (take (prefix_len p (x ∷ xs)) (x ∷ xs)) ≡ true
    by (inl passes) more = rw (prefix_len-yes p x xs passes) (rw (passes, more) refl)
    by (inr stop) more = rw (prefix_len-no p x xs stop) refl

word_stands : (make : List ℕ → Token) (byte : ℕ) (rest : List ℕ) → is_word_byte byte ≡ true → HasForm (make (byte ∷ front is_word_byte rest)) → IsFoundIn (byte ∷ rest) (word_at make (byte ∷ rest))
word_stands make byte rest word form =
    let n : prefix_len is_word_byte (byte ∷ rest) ≡ suc (prefix_len is_word_byte rest) = prefix_len-yes is_word_byte byte rest word in
    subst (λ (k : ℕ). IsFoundIn (byte ∷ rest) (token (make (take k (byte ∷ rest))), k)) (sym n) (record {
      some = omega arith;
      within = let le = prefix_len-le-length is_word_byte rest in omega arith;
      form = form;
    })

number_stands : (bytes : List ℕ) → begins_number bytes ≡ true → IsFoundIn bytes (token (number (take (number_len bytes) bytes)), number_len bytes)
number_stands bytes there =
    let more = number_len-more bytes there in
    record { some = omega arith; within = number_len-le bytes; form = begins_number-take bytes (number_len bytes) more there }

between_stands : (make : List ℕ → Lexeme) (byte : ℕ) (rest : List ℕ) (e : Ending) → ((n : ℕ) → e ≡ closed n → (n < length rest) × LexemeHasForm (make (take n rest))) → IsFoundIn (byte ∷ rest) (between_marks make rest e)
between_stands make byte rest (closed n) closes = record { some = omega arith; within = let lt = (closes n refl).0 in omega arith; form = (closes n refl).1 }
between_stands make byte rest spoilt closes = one_stands byte rest _ tt
between_stands make byte rest unclosed closes = one_stands byte rest _ tt

quoted_form : (characters : List ℕ) → ArePrintableBytes (text_of characters) → (0 < length characters → 0 < length (text_of characters)) → LexemeHasForm (quoted_word characters)
quoted_form [] printable some = tt
quoted_form (b ∷ bs) printable some = (some (omega arith), printable)

quoted_stands : (byte : ℕ) (rest : List ℕ) → IsFoundIn (byte ∷ rest) (quoted_at rest)
quoted_stands byte rest =
    between_stands quoted_word byte rest (ending 39 rest)
    (λ n is.
    let closes = ending_closes 39 rest n (omega arith, omega arith) is in
    (closes.within, quoted_form (take n rest) closes.printable (λ some. closes.some (omega (arith, some, length-take n rest)))))

distinct_stands : (byte : ℕ) (rest : List ℕ) → IsFoundIn (byte ∷ rest) (distinct_at rest)
distinct_stands byte rest = between_stands (λ _. token distinct) byte rest (ending 34 rest) (λ n is. ((ending_closes 34 rest n (omega arith, omega arith) is).within, tt))

dollar_stands : (byte : ℕ) (rest : List ℕ) → IsFoundIn (byte ∷ rest) (dollar_at (byte ∷ rest))
dollar_stands byte rest =
    let bytes : List ℕ = byte ∷ rest in
    let word : List ℕ = drop (dollars_len bytes) bytes in
    stands_by bytes (begins is_ascii_lowercase word) (token (dollar (take (dollar_len bytes) bytes)), dollar_len bytes) (fault BadToken, 1)
    (λ lowercase. record {
      some = let there = prefix_there is_word_byte word (begins-weaker is_ascii_lowercase is_word_byte word lower_word_byte lowercase) in omega (arith, there);
      within = within_more (dollars_len bytes) (prefix_len is_word_byte word) bytes (dollars_len-le bytes).1 (prefix_len-le-length is_word_byte word);
      form = tt;
    })
    (λ _. one_stands byte rest _ tt)

unequal_stands : (byte : ℕ) (rest : List ℕ) → begins (λ b. b == 61) rest ≡ true → IsFoundIn (byte ∷ rest) (token unequal, 2)
unequal_stands byte rest there = record { some = omega arith; within = let le = within_one (λ b. b == 61) rest there in omega arith; form = tt }

mark_form : (o : Option Mark) → LexemeHasForm (mark_lexeme o)
mark_form None = tt
mark_form (Some m) = tt

pub lexeme_stands : (byte : ℕ) (rest : List ℕ) → IsFoundIn (byte ∷ rest) (lexeme_from byte rest)
lexeme_stands byte rest =
    let bytes : List ℕ = byte ∷ rest in
    stands_by bytes (is_blank byte) _ _ (λ _. one_stands byte rest gap tt) (λ _.
    stands_by bytes (byte == 37) _ _ (λ _. line_stands byte rest) (λ _.
    stands_by bytes (is_slash byte && begins is_star rest) _ _ (λ is. comment_stands byte rest (comment_len (drop 1 rest)) (and_parts (is_slash byte) (begins is_star rest) is).1 (comment_len-le (drop 1 rest))) (λ _.
    stands_by bytes (is_ascii_lowercase byte) _ _ (λ is. word_stands lower byte rest (lower_word_byte byte is) (rw (is, front_passes is_word_byte rest) refl)) (λ _.
    stands_by bytes (is_ascii_uppercase byte) _ _ (λ is. word_stands upper byte rest (upper_word_byte byte is) (is, rw (upper_word_byte byte is, front_passes is_word_byte rest) refl)) (λ _.
    stands_by bytes (begins_number bytes) _ _ (λ is. number_stands bytes is) (λ _.
    stands_by bytes (byte == 39) _ _ (λ _. quoted_stands byte rest) (λ _.
    stands_by bytes (byte == 34) _ _ (λ _. distinct_stands byte rest) (λ _.
    stands_by bytes (byte == 36) _ _ (λ _. dollar_stands byte rest) (λ _.
    stands_by bytes ((byte == 33) && begins (λ b. b == 61) rest) _ _ (λ is. unequal_stands byte rest (and_parts (byte == 33) (begins (λ b. b == 61) rest) is).1) (λ _.
    one_stands byte rest _ (mark_form (mark_of byte))))))))))))

pub lexeme_at-stands : (bytes : List ℕ) (x : Lexeme) (n : ℕ) → lexeme_at bytes ≡ Some (x, n) → IsFoundIn bytes (x, n)
lexeme_at-stands [] x n is = absurd cc
lexeme_at-stands (byte ∷ rest) x n is = subst (IsFoundIn (byte ∷ rest)) (same_Some (lexeme_from byte rest) (x, n) is) (lexeme_stands byte rest)

-- ---- lexemes one after the other

pub tokens_have_form : (xs : List Lexeme) (bytes rest : List ℕ) → Lexes xs bytes rest → All HasForm (tokens_in xs)
tokens_have_form [] bytes rest lexes = All-nil HasForm
tokens_have_form (gap ∷ xs) bytes rest lexes = tokens_have_form xs (drop lexes.0 bytes) rest lexes.2
tokens_have_form (fault kind ∷ xs) bytes rest lexes = tokens_have_form xs (drop lexes.0 bytes) rest lexes.2
tokens_have_form (token t ∷ xs) bytes rest lexes =
    All-cons HasForm t (tokens_in xs) (lexeme_at-stands bytes (token t) lexes.0 lexes.1).form (tokens_have_form xs (drop lexes.0 bytes) rest lexes.2)

-- each token has a byte
pub tokens_fit : (xs : List Lexeme) (bytes rest : List ℕ) → Lexes xs bytes rest → length (tokens_in xs) + length rest ≤ length bytes
tokens_fit [] bytes rest lexes = rw lexes (omega arith)
tokens_fit (gap ∷ xs) bytes rest lexes =
    let le = tokens_fit xs (drop lexes.0 bytes) rest lexes.2 in
    omega (arith, le, length-drop lexes.0 bytes)
tokens_fit (fault kind ∷ xs) bytes rest lexes =
    let le = tokens_fit xs (drop lexes.0 bytes) rest lexes.2 in
    omega (arith, le, length-drop lexes.0 bytes)
tokens_fit (token t ∷ xs) bytes rest lexes =
    let le = tokens_fit xs (drop lexes.0 bytes) rest lexes.2 in
    let stands = lexeme_at-stands bytes (token t) lexes.0 lexes.1 in
    omega (arith, le, length-drop lexes.0 bytes, stands.some, stands.within)
