use Rattle.std.proofs.Common.{refl}
use Rattle.pm_work.proofs.TaskLemmas.{lower_end, no_work, returned_honest}
use Rattle.pm_work.proofs.task.leave.Goals as goal

pub give_back-requires-clause-within : goal.give_back-requires-clause-within
give_back-requires-clause-within g c = lower_end c.args.task.ticket.from c.args.task.ticket.to c.requires.held.interval

pub give_back-requires-in_default-copy-clause-within :
    goal.give_back-requires-in_default-copy-clause-within
give_back-requires-in_default-copy-clause-within g c = lower_end c.args.task.ticket.from c.args.task.ticket.to c.requires.held.interval

pub give_back-requires-2-clause-work : goal.give_back-requires-2-clause-work
give_back-requires-2-clause-work g c =
    no_work (g.S.Space.key c.args.task.search.space) c.args.task.ticket c.args.task.from c.args.task.to c.args.task.at c.args.task.done c.requires.held c.in-Some.at c.in-Some.is

pub returns : goal.returns
returns g c = record {
  honest =
      returned_honest (g.S.Space.key c.args.task.search.space) c.args.task.ticket c.args.task.from c.args.task.to c.args.task.at c.args.task.done c.requires.held c.in-Some.at c.in-Some.is
      c.in-Ok.end c.args.pieces.now.items c.push_reserved.new.self.items _ c.in-Ok.ensures refl c.push_reserved.ensures.items c.requires.honest;
}
