use Rattle.std.proofs.Common.{ap}
use Rattle.pm_outside.proofs.Lookups.{from_tree-insert}
use Rattle.pm_outside.proofs.Puts.{with_failing}
use Rattle.pm_outside.specs.contracts.memory_sink.MemorySink.{the_view}
use Rattle.pm_outside.proofs.memory_sink.MemorySink.fail_at.Goals as goal

pub returns-clause-ok : goal.returns-clause-ok
returns-clause-ok c =
    rw (← c.self.view_is) (ap (with_failing (the_view c.self.inside))
    (from_tree-insert c.self.inside.failing c.insert.new.self c.args.call c.args.taken c.in_ok-insert.ensures.updates))
