-- What the code's tokens stand for.
use Rattle.pm_scan.specs.declared.token.Token as code
use Rattle.pm_scan.specs.declared.token.Token.TheVariants as tokens
use Rattle.pm_scan.specs.declared.token.Lexeme as lexeme
use Rattle.pm_scan.specs.declared.token.Lexeme.TheVariants as lexemes
use Rattle.pm_scan.specs.Lexemes.{Token, lower, upper, number, quoted, distinct, dollar, unequal, mark, Lexeme, gap, token, fault, text_of}

abbrev pub token_of : code.Token → Token
token_of (tokens.Lower text) = lower text.now
token_of (tokens.Upper text) = upper text.now
token_of (tokens.Number text) = number text.now
token_of (tokens.Quoted characters) = quoted (text_of characters.now)
token_of tokens.Distinct = distinct
token_of (tokens.Dollar text) = dollar text.now
token_of tokens.Unequal = unequal
token_of (tokens.Mark m) = mark m

abbrev pub lexeme_of : lexeme.Lexeme → Lexeme
lexeme_of lexemes.Gap = gap
lexeme_of (lexemes.Token t) = token (token_of t)
lexeme_of (lexemes.Fault kind) = fault kind
