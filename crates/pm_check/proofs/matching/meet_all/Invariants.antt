use Rattle.std.proofs.Common.{◌≡◌, take}
use Rattle.pm_check.specs.Inside.Matching.{MeetAll}
use Rattle.pm_check.proofs.matching.meet_all.Given as goal

abbrev pub invariant-rows : goal.invariant-rows
invariant-rows l =
    MeetAll l.target l.initial.images.matches l.images.matches (take l.i l.rows) (take l.i l.others)
    × (l.images.count ≡ l.initial.images.count)
