use Rattle.std.proofs.Common.{◌+◌}
use Rattle.pm_search.proofs.AgreeLemmas.{agree_sym}
use Rattle.pm_work.proofs.PieceLemmas.{all_agree}
use Rattle.pm_work.proofs.TaskLemmas.{held_agrees, closes_here, finds_here, held_here}
use Rattle.pm_work.proofs.task.search_on.Goals as goal

pub leave-requires-clause-held : goal.leave-requires-clause-held
leave-requires-clause-held g c =
    let old = g.S.Space.key c.args.task.search.space in
    let new = g.S.Space.key c.run.new.self.space in
    held_agrees new old (agree_sym new old c.in-Err.ensures.key) c.args.task.ticket c.args.task.from c.args.task.to c.args.task.at c.args.task.done c.requires.held

pub leave-requires-clause-honest : goal.leave-requires-clause-honest
leave-requires-clause-honest g c =
    let old = g.S.Space.key c.args.task.search.space in
    let new = g.S.Space.key c.run.new.self.space in
    all_agree new old (agree_sym new old c.in-Err.ensures.key) c.args.pieces.now.items c.requires.honest

pub close-requires-clause-closes : goal.close-requires-clause-closes
close-requires-clause-closes g c =
    let old = g.S.Space.key c.args.task.search.space in
    let new = g.S.Space.key c.run.new.self.space in
    closes_here new old c.in-Ok-Closed.ensures.key c.args.task.ticket c.args.task.from c.args.task.to c.args.task.at c.args.task.done c.requires.held c.args.task.search c.requires.searching (c.args.task.search.worked + c.args.fuel) c.in-Ok-Closed.field-0 c.in-Ok-Closed.ensures.turn c.in-Ok-Closed.work c.in-Ok-Closed.field-0-is

pub close-requires-clause-honest : goal.close-requires-clause-honest
close-requires-clause-honest g c =
    let old = g.S.Space.key c.args.task.search.space in
    let new = g.S.Space.key c.run.new.self.space in
    all_agree new old (agree_sym new old c.in-Ok-Closed.ensures.key) c.args.pieces.now.items c.requires.honest

pub find-requires-clause-held : goal.find-requires-clause-held
find-requires-clause-held g c =
    let old = g.S.Space.key c.args.task.search.space in
    let new = g.S.Space.key c.run.new.self.space in
    held_agrees new old (agree_sym new old c.in-Ok-Found.ensures.key) c.args.task.ticket c.args.task.from c.args.task.to c.args.task.at c.args.task.done c.requires.held

pub find-requires-clause-finds : goal.find-requires-clause-finds
find-requires-clause-finds g c =
    let old = g.S.Space.key c.args.task.search.space in
    let new = g.S.Space.key c.run.new.self.space in
    finds_here new old c.in-Ok-Found.ensures.key c.args.task.ticket c.args.task.from c.args.task.to c.args.task.at c.args.task.done c.requires.held c.args.task.search c.requires.searching (c.args.task.search.worked + c.args.fuel) c.in-Ok-Found.field-0 c.in-Ok-Found.ensures.turn c.in-Ok-Found.path c.in-Ok-Found.work c.in-Ok-Found.field-0-is

pub find-requires-clause-honest : goal.find-requires-clause-honest
find-requires-clause-honest g c =
    let old = g.S.Space.key c.args.task.search.space in
    let new = g.S.Space.key c.run.new.self.space in
    all_agree new old (agree_sym new old c.in-Ok-Found.ensures.key) c.args.pieces.now.items c.requires.honest

pub returns-in_err-find-in-Ok-Found-clause-honest :
    goal.returns-in_err-find-in-Ok-Found-clause-honest
returns-in_err-find-in-Ok-Found-clause-honest g c =
    let old = g.S.Space.key c.args.task.search.space in
    let new = g.S.Space.key c.run.new.self.space in
    all_agree old new c.in-Ok-Found.ensures.key c.find.new.pieces.items c.find.ensures.honest

pub returns-in-Err-clause-honest : goal.returns-in-Err-clause-honest
returns-in-Err-clause-honest g c =
    let old = g.S.Space.key c.args.task.search.space in
    let new = g.S.Space.key c.run.new.self.space in
    all_agree old new c.in-Err.ensures.key c.leave.new.pieces.items c.leave.ensures.honest

pub returns-in-Ok-Closed-clause-honest : goal.returns-in-Ok-Closed-clause-honest
returns-in-Ok-Closed-clause-honest g c =
    let old = g.S.Space.key c.args.task.search.space in
    let new = g.S.Space.key c.run.new.self.space in
    all_agree old new c.in-Ok-Closed.ensures.key c.close.new.pieces.items c.close.ensures.honest

pub returns-in_ok-find-in-Ok-Found-clause-honest : goal.returns-in_ok-find-in-Ok-Found-clause-honest
returns-in_ok-find-in-Ok-Found-clause-honest g c =
    let old = g.S.Space.key c.args.task.search.space in
    let new = g.S.Space.key c.run.new.self.space in
    all_agree old new c.in-Ok-Found.ensures.key c.find.new.pieces.items c.find.ensures.honest

pub returns-in-Ok-Paused-clause-held : goal.returns-in-Ok-Paused-clause-held
returns-in-Ok-Paused-clause-held g c =
    let old = g.S.Space.key c.args.task.search.space in
    let new = g.S.Space.key c.run.new.self.space in
    held_here new old c.in-Ok-Paused.ensures.key c.args.task.ticket c.args.task.from c.args.task.to c.args.task.at c.args.task.done c.requires.held c.args.task.search c.requires.searching (c.args.task.search.worked + c.args.fuel) c.in-Ok-Paused.field-0 c.in-Ok-Paused.ensures.turn c.in-Ok-Paused.at c.in-Ok-Paused.work c.in-Ok-Paused.field-0-is
