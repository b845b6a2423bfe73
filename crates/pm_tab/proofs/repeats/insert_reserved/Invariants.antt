use Rattle.std.proofs.Common.{◌≡◌, ◌++◌, take}
use Rattle.std.specs.Vec.{vec_capacity}
use Rattle.pm_tab.proofs.repeats.insert_reserved.Given as goal

abbrev pub invariant-numbers : goal.invariant-numbers
invariant-numbers l =
    (l.into.items ≡ l.initial.into.items ++ take l.number-index l.numbers) × (vec_capacity l.into ≡ vec_capacity l.initial.into)
