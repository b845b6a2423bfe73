-- Tokens and what stands between them, as bytes: each form is as long as it can be.
use Rattle.std.specs.Prelude.{◌≡◌, ℕ, suc, ◌+◌, ◌&&◌, ◌||◌, ◌==◌, Bool, false, not, cond, if◌then◌else◌, List, [], ◌∷◌, take, drop, nat_le, filter, reverse, codes, Option, Some, None, length}
use Rattle.std.specs.List.{list_any, prefix_len}
use Rattle.std.specs.Option.{option_map}
use Rattle.std.specs.Char.{is_ascii_digit, is_ascii_lowercase, is_ascii_uppercase}
use Rattle.pm_logic.specs.Word.{is_word_byte}
use Rattle.pm_scan.specs.declared.offence.CnfKind.{CnfKind}
use Rattle.pm_scan.specs.declared.offence.CnfKind.TheVariants.{BadByte, BadToken, UnclosedComment, UnclosedQuote}
use Rattle.pm_scan.specs.declared.token.Mark.{Mark}
use Rattle.pm_scan.specs.declared.token.Mark.TheVariants.{OpenParenthesis, CloseParenthesis, OpenBracket, CloseBracket, OpenBrace, CloseBrace, Comma, FullStop, Bar, Tilde, Equals, Other}

-- a quoted word is seen as its text; of a distinct object nothing is kept
pub data Token : Type 0 where
  lower : List ℕ → Token
  upper : List ℕ → Token
  number : List ℕ → Token
  quoted : List ℕ → Token
  distinct : Token
  dollar : List ℕ → Token
  unequal : Token
  mark : Mark → Token

-- what stands at the front of bytes: a blank or a comment, a token, or a fault
pub data Lexeme : Type 0 where
  gap : Lexeme
  token : Token → Lexeme
  fault : CnfKind → Lexeme

-- tab to carriage return, and space
abbrev pub is_blank : ℕ → Bool
is_blank byte =
    (byte == 9) || (byte == 10) || (byte == 11) || (byte == 12) || (byte == 13) || (byte == 32)

-- the first byte is there and passes the test
abbrev pub begins : (ℕ → Bool) → List ℕ → Bool
begins test [] = false
begins test (byte ∷ bytes) = test byte

-- the first bytes that pass the test
abbrev pub front : (ℕ → Bool) → List ℕ → List ℕ
front test bytes = take (prefix_len test bytes) bytes

abbrev pub is_line_end : ℕ → Bool
is_line_end byte = byte == 10

abbrev pub is_star : ℕ → Bool
is_star byte = byte == 42

abbrev pub is_dollar : ℕ → Bool
is_dollar byte = byte == 36

abbrev pub is_slash : ℕ → Bool
is_slash byte = byte == 47

-- + or -
abbrev pub is_sign : ℕ → Bool
is_sign byte = (byte == 43) || (byte == 45)

-- . or /
abbrev pub is_fraction_mark : ℕ → Bool
is_fraction_mark byte = (byte == 46) || (byte == 47)

-- e or E
abbrev pub is_exponent_mark : ℕ → Bool
is_exponent_mark byte = (byte == 101) || (byte == 69)

-- The number of bytes up to and with the first */, which is there.
abbrev pub comment_len : List ℕ → Option ℕ
comment_len [] = None
comment_len (byte ∷ bytes) =
    if is_star byte && begins is_slash bytes then Some 2 else option_map suc (comment_len bytes)

-- one or more digits are taken, or none
abbrev pub digits_len : List ℕ → ℕ
digits_len bytes = prefix_len is_ascii_digit bytes

abbrev pub sign_len : List ℕ → ℕ
sign_len bytes = cond (begins is_sign bytes) 1 0

-- a . or / with one or more digits after it
abbrev pub fraction_len : List ℕ → ℕ
fraction_len bytes =
    cond (begins is_fraction_mark bytes && begins is_ascii_digit (drop 1 bytes))
    (1 + digits_len (drop 1 bytes)) 0

-- a digit, or a sign and a digit
abbrev pub begins_number : List ℕ → Bool
begins_number bytes = begins is_ascii_digit (drop (sign_len bytes) bytes)

-- a sign or none, and digits
abbrev pub integer_len : List ℕ → ℕ
integer_len bytes = sign_len bytes + digits_len (drop (sign_len bytes) bytes)

-- e or E, a sign or none, and one or more digits
abbrev pub exponent_len : List ℕ → ℕ
exponent_len bytes =
    cond (begins is_exponent_mark bytes && begins_number (drop 1 bytes))
    (1 + integer_len (drop 1 bytes)) 0

-- a sign or none, digits, and a fraction where it is whole; then an exponent where it is whole
abbrev pub decimal_len : List ℕ → ℕ
decimal_len bytes = integer_len bytes + fraction_len (drop (integer_len bytes) bytes)

abbrev pub number_len : List ℕ → ℕ
number_len bytes = decimal_len bytes + exponent_len (drop (decimal_len bytes) bytes)

abbrev pub number_at : List ℕ → Lexeme × ℕ
number_at bytes = (token (number (take (number_len bytes) bytes)), number_len bytes)

-- how the characters of a quoted word or of a distinct object end
pub data Ending : Type 0 where
  closed : ℕ → Ending
  spoilt : Ending
  unclosed : Ending

abbrev pub later : ℕ → Ending → Ending
later n (closed m) = closed (n + m)
later n spoilt = spoilt
later n unclosed = unclosed

-- a byte from 32 to 126 that isn't \
abbrev pub is_plain_byte : ℕ → Bool
is_plain_byte byte = nat_le 32 byte && nat_le byte 126 && not (byte == 92)

-- The characters up to the closing mark: a plain byte, or \ with the closing mark or \ after it.
abbrev pub ending : ℕ → List ℕ → Ending
ending close [] = unclosed
ending close (byte ∷ []) =
    if byte == close then closed 0 else if is_plain_byte byte then unclosed else spoilt
ending close (byte ∷ next ∷ bytes) =
    if byte == close then closed 0
    else if is_plain_byte byte then later 1 (ending close (next ∷ bytes))
    else if (byte == 92) && ((next == close) || (next == 92)) then later 2 (ending close bytes)
    else spoilt

-- the text of characters: \' and \\ are read as ' and \
abbrev pub text_of : List ℕ → List ℕ
text_of [] = []
text_of (byte ∷ []) = byte ∷ []
text_of (byte ∷ next ∷ bytes) =
    if byte == 92 then next ∷ text_of bytes else byte ∷ text_of (next ∷ bytes)

-- what characters with this ending make between their marks
abbrev pub between_marks : (List ℕ → Lexeme) → List ℕ → Ending → Lexeme × ℕ
between_marks make bytes (closed n) = (make (take n bytes), n + 2)
between_marks make bytes spoilt = (fault BadToken, 1)
between_marks make bytes unclosed = (fault UnclosedQuote, 1)

-- one or more characters
abbrev pub quoted_word : List ℕ → Lexeme
quoted_word [] = fault BadToken
quoted_word characters = token (quoted (text_of characters))

-- the opening mark was taken away
abbrev pub quoted_at : List ℕ → Lexeme × ℕ
quoted_at bytes = between_marks quoted_word bytes (ending 39 bytes)

abbrev pub distinct_at : List ℕ → Lexeme × ℕ
distinct_at bytes = between_marks (λ _. token distinct) bytes (ending 34 bytes)

-- $ or $$, then a lower word
abbrev pub dollars_len : List ℕ → ℕ
dollars_len bytes = prefix_len is_dollar (take 2 bytes)

abbrev pub dollar_len : List ℕ → ℕ
dollar_len bytes = dollars_len bytes + prefix_len is_word_byte (drop (dollars_len bytes) bytes)

abbrev pub dollar_at : List ℕ → Lexeme × ℕ
dollar_at bytes =
    if begins is_ascii_lowercase (drop (dollars_len bytes) bytes)
    then (token (dollar (take (dollar_len bytes) bytes)), dollar_len bytes)
    else (fault BadToken, 1)

-- the opening mark was taken away
abbrev pub comment_of : Option ℕ → Lexeme × ℕ
comment_of (Some n) = (gap, 2 + n)
comment_of None = (fault UnclosedComment, 1)

abbrev pub word_at : (List ℕ → Token) → List ℕ → Lexeme × ℕ
word_at make bytes = (token (make (front is_word_byte bytes)), prefix_len is_word_byte bytes)

-- ( ) [ ] { } , . | ~ =  and  : ! ? & @ ^ < > * + - /
abbrev pub mark_of : ℕ → Option Mark
mark_of byte =
    if byte == 40 then Some OpenParenthesis else if byte == 41 then Some CloseParenthesis else
    if byte == 91 then Some OpenBracket else if byte == 93 then Some CloseBracket else
    if byte == 123 then Some OpenBrace else if byte == 125 then Some CloseBrace else
    if byte == 44 then Some Comma else if byte == 46 then Some FullStop else
    if byte == 124 then Some Bar else if byte == 126 then Some Tilde else
    if byte == 61 then Some Equals else
    if list_any (λ other. byte == other) (codes ":!?&@^<>*+-/") then Some Other else None

abbrev pub mark_lexeme : Option Mark → Lexeme
mark_lexeme (Some m) = token (mark m)
mark_lexeme None = fault BadByte

-- What stands at the front of the bytes, and how many of them it has. A fault has at least one.
abbrev pub lexeme_from : ℕ → List ℕ → Lexeme × ℕ
lexeme_from byte rest =
    if is_blank byte then (gap, 1) else
    if byte == 37 then (gap, 1 + prefix_len (λ b. not (is_line_end b)) rest) else
    if is_slash byte && begins is_star rest then comment_of (comment_len (drop 1 rest)) else
    if is_ascii_lowercase byte then word_at lower (byte ∷ rest) else
    if is_ascii_uppercase byte then word_at upper (byte ∷ rest) else
    if begins_number (byte ∷ rest) then number_at (byte ∷ rest) else
    if byte == 39 then quoted_at rest else
    if byte == 34 then distinct_at rest else
    if byte == 36 then dollar_at (byte ∷ rest) else
    if (byte == 33) && begins (λ b. b == 61) rest then (token unequal, 2) else
    (mark_lexeme (mark_of byte), 1)

-- nothing stands at the end of the file
abbrev pub lexeme_at : List ℕ → Option (Lexeme × ℕ)
lexeme_at [] = None
lexeme_at (byte ∷ rest) = Some (lexeme_from byte rest)

-- these lexemes stand at the front of the bytes, one after the other, and the rest comes after them
abbrev pub Lexes : List Lexeme → List ℕ → List ℕ → Type 0
Lexes [] bytes rest = bytes ≡ rest
Lexes (x ∷ xs) bytes rest = (n : ℕ) × (lexeme_at bytes ≡ Some (x, n)) × Lexes xs (drop n bytes) rest

-- the tokens among lexemes
abbrev pub tokens_in : List Lexeme → List Token
tokens_in [] = []
tokens_in (token t ∷ xs) = t ∷ tokens_in xs
tokens_in (x ∷ xs) = tokens_in xs

-- LF ends a line; lines and columns are counted from 1
abbrev pub line_of : List ℕ → ℕ
line_of before = 1 + length (filter is_line_end before)

abbrev pub column_of : List ℕ → ℕ
column_of before = 1 + prefix_len (λ b. not (is_line_end b)) (reverse before)
