use Rattle.std.proofs.Common.{◌≡◌, ◌++◌, length}
use Rattle.pm_certread.specs.declared.words.Place.TheVariants.{Outside}
use Rattle.pm_certread.specs.Inside.Words.{first_length, words_of}
use Rattle.pm_certread.specs.Inside.Cuts.{bytes_of}
use Rattle.pm_certread.proofs.words.words_of.Given as goal

abbrev pub invariant-words : goal.invariant-words
invariant-words l =
    (bytes_of l.words.items ++ words_of l.rest ≡ words_of l.line)
    × (l.end ≡ first_length Outside l.rest)

abbrev pub decreases-words : goal.decreases-words
decreases-words l = length l.rest
