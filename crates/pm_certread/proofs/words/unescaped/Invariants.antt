use Rattle.std.proofs.Common.{◌≡◌, ◌++◌, drop, false}
use Rattle.pm_certread.specs.Inside.Words.{unescaped}
use Rattle.pm_certread.proofs.words.unescaped.Given as goal

abbrev pub invariant-loop-byte : goal.invariant-loop-byte
invariant-loop-byte l =
    l.text.items ++ unescaped l.behind (drop l.byte-index l.word) ≡ unescaped false l.word
