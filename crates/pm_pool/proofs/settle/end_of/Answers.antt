use Rattle.pm_pool.proofs.SettleLemmas.{best_there}
use Rattle.pm_pool.proofs.settle.end_of.Goals as goal

pub unreachable-requires : goal.unreachable-requires
unreachable-requires c = best_there c.args.book.now c.requires.always (c.requires.found.0 c.if-not-found.false) c.in-None.ensures.best
