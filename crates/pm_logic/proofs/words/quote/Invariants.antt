use Rattle.std.proofs.Common.{◌≡◌, ◌++◌}
use Rattle.pm_logic.proofs.WordLemmas.{begun}
use Rattle.pm_logic.proofs.words.quote.Given as goal

abbrev pub invariant-loop-byte : goal.invariant-loop-byte
invariant-loop-byte l = l.into.items ≡ l.fn.into.items ++ begun l.text l.byte-index
