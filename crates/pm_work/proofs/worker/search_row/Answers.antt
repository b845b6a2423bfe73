use Rattle.std.proofs.Common.{List, sym, subst}
use Rattle.std.specs.Prelude.{All}
use Rattle.pm_search.proofs.AgreeLemmas.{agree_sym}
use Rattle.pm_work.specs.declared.piece.Piece.{Piece}
use Rattle.pm_work.specs.Pieces.{IsHonestPiece}
use Rattle.pm_work.proofs.PieceLemmas.{all_agree}
use Rattle.pm_work.proofs.worker.search_row.Goals as goal

pub search_task-requires-clause-honest : goal.search_task-requires-clause-honest
search_task-requires-clause-honest g c =
    let key = g.M.Maker.key_at c.args.maker.now c.args.level in
    let new = g.M.Made.Space.key c.in-Ok.task.search.space in
    let kept : All (IsHonestPiece key) c.reserve.new.self.items = subst (λ (l : List Piece). All (IsHonestPiece key) l) (sym c.reserve.ensures.items) c.requires.honest in
    all_agree new key (agree_sym new key c.in-Ok.ensures.key) c.reserve.new.self.items kept

pub returns-in-Ok : goal.returns-in-Ok
returns-in-Ok g c =
    let key = g.M.Maker.key_at c.args.maker.now c.args.level in
    let new = g.M.Made.Space.key c.in-Ok.task.search.space in
    all_agree key new c.in-Ok.ensures.key c.search_task.new.pieces.items c.search_task.ensures
