use Rattle.std.proofs.Common.{List, subst}
use Rattle.std.specs.Prelude.{All}
use Rattle.std.proofs.lemmas.List.Sorted.{All-permutation}
use Rattle.pm_book.specs.Honest.{front_of}
use Rattle.pm_work.specs.declared.piece.Piece.{Piece}
use Rattle.pm_work.specs.Pieces.{IsHonestPiece, IsOneOf}
use Rattle.pm_pool.proofs.SettleLemmas.{tells, level_ends}
use Rattle.pm_pool.proofs.settle.settle.Goals as goal

pub returns-in-Settled-clause-ends : goal.returns-in-Settled-clause-ends
returns-in-Settled-clause-ends g c =
    let key = g.M.Maker.key_at c.args.maker.now c.args.level in
    let sorted = c.sort_pieces.new.pieces.items in
    let honest = All-permutation (IsHonestPiece key) c.rows.pieces.items sorted c.sort_pieces.ensures c.rows.invariant.honest in
    let reads = c.in-Settled.ensures.reads in
    let front = subst (λ (l : List Piece). All (IsOneOf l c.rows.book.best) (front_of c.rows.book.rows)) c.deref.ensures.value reads.front in
    let told = tells key c.args.budget c.rows.book sorted c.in-Settled.ensures.always honest front reads.settled in
    level_ends key c.args.budget c.rows.book c.in_ok-end-in-Settled.end told c.in_ok-end-in-Settled.ensures

pub returns-in-Settled-clause-honest : goal.returns-in-Settled-clause-honest
returns-in-Settled-clause-honest g c =
    All-permutation (IsHonestPiece (g.M.Maker.key_at c.args.maker.now c.args.level)) c.rows.pieces.items c.sort_pieces.new.pieces.items c.sort_pieces.ensures c.rows.invariant.honest

pub search_row-requires-clause-honest : goal.search_row-requires-clause-honest
search_row-requires-clause-honest g c κs within =
    All-permutation (IsHonestPiece (g.M.Maker.key_at c.args.maker.now c.args.level)) c.rows.pieces.items c.sort_pieces.new.pieces.items c.sort_pieces.ensures c.rows.invariant.honest
