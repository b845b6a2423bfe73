use Rattle.std.proofs.Common.{◌≡◌, Some, take}
use Rattle.pm_book.specs.Steps.{replayed, new_book}
use Rattle.pm_book.specs.Inside.Seen.{seen, AreSoundTables}
use Rattle.pm_book.proofs.history.replay.Given as goal

abbrev pub invariant-loop-at : goal.invariant-loop-at
invariant-loop-at l = record {
  sound : AreSoundTables l.tables;
  made : replayed l.cuts (take l.at l.events) (Some (new_book l.budget)) ≡ Some (seen l.tables);
}
