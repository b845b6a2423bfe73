-- What the text of each token is like.
use Rattle.std.specs.Prelude.{IsTrue}
use Rattle.std.specs.List.{list_all}
use Rattle.std.specs.Char.{is_ascii_uppercase}
use Rattle.pm_logic.specs.Word.{is_word_byte, is_lower_word}
use Rattle.pm_logic.specs.Problem.{IsPrintable}
use Rattle.pm_scan.specs.Lexemes.{Token, lower, upper, number, quoted, Lexeme, token, begins, begins_number}

-- what each token's text is like
abbrev pub HasForm : Token → Type 0
HasForm (lower text) = IsTrue (is_lower_word text)
HasForm (upper text) = IsTrue (begins is_ascii_uppercase text) × IsTrue (list_all is_word_byte text)
HasForm (number text) = IsTrue (begins_number text)
HasForm (quoted text) = IsPrintable text
HasForm t = Unit {0}

-- a token has its form
abbrev pub LexemeHasForm : Lexeme → Type 0
LexemeHasForm (token t) = HasForm t
LexemeHasForm x = Unit {0}
