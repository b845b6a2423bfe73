use Rattle.std.proofs.Common.{vec_len}
use Rattle.std.specs.Vec.{vec_capacity}
use Rattle.pm_check.proofs.ImageLemmas.{Clears}
use Rattle.pm_check.proofs.images.Images.clear.Given as goal

abbrev pub invariant-matches : goal.invariant-matches
invariant-matches l =
    Clears l.initial.self-inside.rows.items l.self-inside.rows.items l.self-inside.matches.items (vec_capacity l.self-inside.matches)

abbrev pub decreases-matches : goal.decreases-matches
decreases-matches l = vec_len l.self-inside.matches
