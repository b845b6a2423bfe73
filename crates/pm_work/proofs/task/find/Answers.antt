use Rattle.pm_work.proofs.PieceLemmas.{with_piece}
use Rattle.pm_work.proofs.task.find.Goals as goal

pub returns : goal.returns
returns g c =
    let key = g.S.Space.key c.args.task.search.space in
    record { honest = with_piece key c.args.pieces.now.items c.push_reserved.new.self.items _ c.push_reserved.ensures.items c.requires.honest c.requires.finds }
