use Rattle.std.proofs.Common.{◌≡◌, get_or, map, take}
use Rattle.pm_tab.proofs.repeats.note_ids.Given as goal

abbrev pub invariant-places : goal.invariant-places
invariant-places l = l.ids.items ≡ map (λ place. get_or l.numbers place 0) (take l.place-index l.branch)
