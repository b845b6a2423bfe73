use Rattle.pm_search.proofs.AgreeLemmas.{agree_sym}
use Rattle.pm_work.proofs.PieceLemmas.{all_agree}
use Rattle.pm_work.proofs.TaskLemmas.{lower_end}
use Rattle.pm_work.proofs.worker.work_ticket.Goals as goal

pub work_row-requires-clause-honest : goal.work_row-requires-clause-honest
work_row-requires-clause-honest g c =
    let key = g.M.Maker.key_at c.args.maker.now c.args.level in
    let new = g.M.Made.Space.key c.in-Ok.task.search.space in
    all_agree new key (agree_sym new key c.in-Ok.ensures.key) c.args.pieces.now.items c.requires.honest

pub give_back-requires-clause-within : goal.give_back-requires-clause-within
give_back-requires-clause-within g c = lower_end c.in-Err.ticket.from c.in-Err.ticket.to c.from-from.ensures.interval

pub returns-in-Ok : goal.returns-in-Ok
returns-in-Ok g c =
    let key = g.M.Maker.key_at c.args.maker.now c.args.level in
    let new = g.M.Made.Space.key c.in-Ok.task.search.space in
    all_agree key new c.in-Ok.ensures.key c.work_row.new.pieces.items c.work_row.ensures
