use Rattle.pm_book.proofs.Moves.{take_step}
use Rattle.pm_book.proofs.tables.Tables.take.Goals as goal

pub returns-clause-step : goal.returns-clause-step
returns-clause-step c = take_step c.args.self.now c.put.new.self c.args.spot c.args.worker c.requires.kept c.requires.spot c.requires.budget c.put.ensures.put
