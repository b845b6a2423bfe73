-- What reading up to a closing mark answers.
use Rattle.std.specs.Prelude.{ℕ, Result, Ok, Err}
use Rattle.pm_scan.specs.declared.offence.CnfKind.{CnfKind}
use Rattle.pm_scan.specs.declared.offence.CnfKind.TheVariants.{BadToken, UnclosedQuote}
use Rattle.pm_scan.specs.Lexemes.{Ending, closed, spoilt, unclosed}

-- the number of bytes up to the closing mark, or the offence
abbrev pub closed_len : Ending → Result ℕ CnfKind
closed_len (closed n) = Ok n
closed_len spoilt = Err BadToken
closed_len unclosed = Err UnclosedQuote
