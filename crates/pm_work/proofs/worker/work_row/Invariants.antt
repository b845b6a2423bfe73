use Rattle.std.proofs.Common.{◌+◌, ◌-◌, ◌<◌, ◌≤◌, vec_len, vec_capacity}
use Rattle.std.specs.Prelude.{All}
use Rattle.pm_space.specs.Key.{Agree}
use Rattle.pm_work.specs.Pieces.{IsHonestPiece}
use Rattle.pm_work.specs.Inside.Tasks.{IsHeld, IsSearching}
use Rattle.pm_work.proofs.worker.work_row.Given as goal

abbrev pub invariant-slices : goal.invariant-slices
invariant-slices g l = record {
  held : IsHeld (g.S.Space.key l.task.search.space) l.task.ticket l.task.from l.task.to l.task.at l.task.done;
  searching : IsSearching l.task.ticket l.task.search;
  few : l.task.search.worked ≤ l.budget;
  room : vec_len l.pieces < vec_capacity l.pieces;
  honest : All (IsHonestPiece (g.S.Space.key l.fn.task.search.space)) l.pieces.items;
  key : Agree (g.S.Space.key l.task.search.space) (g.S.Space.key l.fn.task.search.space);
}

abbrev pub decreases-slices : goal.decreases-slices
decreases-slices g l = l.budget + 1 - l.task.search.worked
