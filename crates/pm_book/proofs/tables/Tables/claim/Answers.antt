use Rattle.pm_book.proofs.Moves.{claim_step}
use Rattle.pm_book.proofs.tables.Tables.claim.Goals as goal

pub returns-clause-step : goal.returns-clause-step
returns-clause-step c = claim_step c.args.self.now c.put.new.self c.args.spot c.args.worker c.requires.kept c.requires.spot c.requires.queued c.put.ensures.put
