use Rattle.std.proofs.Common.{◌≡◌, take, map, decimal}
use Rattle.std.specs.List.{All}
use Rattle.pm_certread.specs.Forms.{IsNumber}
use Rattle.pm_certread.specs.Inside.Cuts.{bytes_of}
use Rattle.pm_certread.proofs.words.numbers.Given as goal

abbrev pub invariant-loop-word : goal.invariant-loop-word
invariant-loop-word l =
    All IsNumber l.numbers.items
    × (bytes_of (take l.word-index l.words) ≡ map decimal l.numbers.items)
