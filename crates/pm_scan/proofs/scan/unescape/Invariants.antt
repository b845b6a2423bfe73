use Rattle.std.proofs.Common.{◌≡◌, ◌++◌, length}
use Rattle.pm_scan.specs.Lexemes.{text_of}
use Rattle.pm_scan.proofs.scan.unescape.Given as goal

abbrev pub invariant-characters : goal.invariant-characters
invariant-characters l = l.text.items ++ text_of l.rest ≡ text_of l.characters

abbrev pub decreases-characters : goal.decreases-characters
decreases-characters l = length l.rest
