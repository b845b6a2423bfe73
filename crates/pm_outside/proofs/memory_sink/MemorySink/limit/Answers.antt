use Rattle.std.proofs.Common.{sym, ◌∙◌}
use Rattle.pm_outside.proofs.Lookups.{get-from_tree}
use Rattle.pm_outside.proofs.memory_sink.MemorySink.limit.Goals as goal

pub returns : goal.returns
returns c =
    rw (← c.self.view_is) (c.copied.ensures ∙ c.get.ensures.value ∙ sym (get-from_tree c.self.inside.failing c.self.inside.calls))
