use Rattle.std.specs.Prelude.{All}
use Rattle.pm_work.specs.Pieces.{IsHonestPiece}
use Rattle.pm_work.proofs.worker.work.Given as goal

abbrev pub invariant-rows : goal.invariant-rows
invariant-rows g l = All (IsHonestPiece (g.M.Maker.key_at l.maker l.level)) l.pieces.items
