use Rattle.std.specs.Prelude.{All, IfSome}
use Rattle.pm_work.specs.Pieces.{IsHonestPiece}
use Rattle.pm_work.specs.Readings.{HasMisfit}
use Rattle.pm_pool.proofs.settle.settle.Given as goal

abbrev pub invariant-rows : goal.invariant-rows
invariant-rows g l = record {
  honest : All (IsHonestPiece (g.M.Maker.key_at l.maker l.level)) l.pieces.items;
  aside : IfSome l.aside (λ aside. HasMisfit aside.pieces.items aside.book);
}
