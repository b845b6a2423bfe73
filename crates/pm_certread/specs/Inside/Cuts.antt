-- A line's words, as the code has them.
use Rattle.std.specs.Prelude.{◌≡◌, ◌≢◌, ◌==◌, ℕ, suc, List, [], ◌∷◌, if◌then◌else◌, Option, None, Some, All, map, decimal}
use Rattle.std.specs.Borrow.{Bor}
use Rattle.pm_logic.specs.Problem.{IsPrintable}
use Rattle.pm_logic.specs.Word.{written_word}
use Rattle.pm_certread.specs.Lines.{ended}
use Rattle.pm_certread.specs.Forms.{IsNumber}
use Rattle.pm_certread.specs.Inside.Words.{words_of}

-- the bytes of borrowed words
abbrev pub bytes_of : List (Bor (List ℕ)) → List (List ℕ)
bytes_of words = map (λ word. word.now) words

-- the words of a line, where the bytes are one with its LF
abbrev pub IsCut : List ℕ → Option (List (Bor (List ℕ))) → Type 0
IsCut raw None = (line : List ℕ) → raw ≢ ended line
IsCut raw (Some words) = (line : List ℕ) × (raw ≡ ended line) × (bytes_of words ≡ words_of line)

-- the number that the word is, if it is one
abbrev pub ReadsNumber : List ℕ → Option ℕ → Type 0
ReadsNumber word None = (n : ℕ) → IsNumber n → word ≢ decimal n
ReadsNumber word (Some n) = IsNumber n × (word ≡ decimal n)

-- the numbers that the words are, if all of them are numbers
abbrev pub ReadsNumbers : List (List ℕ) → Option (List ℕ) → Type 0
ReadsNumbers words None = (ns : List ℕ) → All IsNumber ns → words ≢ map decimal ns
ReadsNumbers words (Some ns) = All IsNumber ns × (words ≡ map decimal ns)

-- the text that is written as the word, if there is one
abbrev pub ReadsText : List ℕ → Option (List ℕ) → Type 0
ReadsText word None = (text : List ℕ) → IsPrintable text → word ≢ written_word text
ReadsText word (Some text) = IsPrintable text × (word ≡ written_word text)

-- how many bytes the first line has, with its LF
abbrev pub line_length : List ℕ → ℕ
line_length [] = 0
line_length (byte ∷ bytes) = if byte == 10 then 1 else suc (line_length bytes)
